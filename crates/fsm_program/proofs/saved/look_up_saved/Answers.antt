use Rattle.std.proofs.Common.{ap, refl, inl, inr}
use Rattle.fsm_io.specs.Folders.{Finds}
use Rattle.fsm_program.specs.Ends.{folder_failed, for_saved, no_memory}
use Rattle.fsm_program.specs.Saved.{HasSavedText, IsSavedFault}
use Rattle.fsm_program.proofs.Endings.{ends_saved, ends_unsaved, same_count}
use Rattle.fsm_program.proofs.Loading.{told_so}
use Rattle.fsm_program.proofs.Saving.{asked_saved, fault_there, most_saved_is, text_there, why_there}
use Rattle.fsm_program.proofs.saved.look_up_saved.Goals as goal

pub returns-in-Err-Failed-clause-ends : goal.returns-in-Err-Failed-clause-ends
returns-in-Err-Failed-clause-ends g c = folder_failed (for_saved _) refl tt (rw c.in-Err-Failed.field-0-is at c.in-Err-Failed.ensures.error) refl refl refl

pub returns-in-Err-Memory-clause-ends : goal.returns-in-Err-Memory-clause-ends
returns-in-Err-Memory-clause-ends g c = no_memory (for_saved _) refl tt (same_count _ _ c.find.ensures.later (rw c.in-Err-Memory.field-0-is at c.in-Err-Memory.ensures.error)) refl refl refl

pub returns-in-Ok-network_of-clause-ends : goal.returns-in-Ok-network_of-clause-ends
returns-in-Ok-network_of-clause-ends g c =
    let file = c.args.file in
    let found = c.in-Ok.found in
    let (bytes, some, from) = c.in-Ok-network_of.ensures.saved in
    let there = told_so (Finds file 67108865 found) (HasSavedText file from.text) _ (λ files finds. text_there 67108865 most_saved_is file files found bytes from.text some c.in-Ok-network_of.ensures.faultless from.is finds) (rw c.as_str.ensures at c.in-Ok.ensures.found) in
    ends_saved _ _ _ c.answered.result c.in-Ok.ensures.whole c.find.ensures.later (λ is. let none = c.answered.ensures.none is in (ap (λ i. g.I.Source.left i) none.0, ap (λ o. g.O.Sink.held o) none.1))
    file c.in-Ok-network_of.network from.text there from.network c.answered.ensures.answered

pub returns-in-Ok-network_of-clause-unread : goal.returns-in-Ok-network_of-clause-unread
returns-in-Ok-network_of-clause-unread g c either =
    elim either [
      | inl one ↦ absurd (c.answered.ensures.status.0 one)
      | inr others ↦ elim others [ inl two ↦ absurd (c.answered.ensures.status.1 two) | inr five ↦ (c.answered.ensures.none five).0 ]
    ]

pub returns-in-Ok-network_of-clause-unread_declined : goal.returns-in-Ok-network_of-clause-unread_declined
returns-in-Ok-network_of-clause-unread_declined g c seven = absurd (c.answered.ensures.status.2 seven)

pub returns-in-Ok-network_of-clause-unwritten : goal.returns-in-Ok-network_of-clause-unwritten
returns-in-Ok-network_of-clause-unwritten g c five = (c.answered.ensures.none five).1

pub returns-in-Ok-network_of-clause-read : goal.returns-in-Ok-network_of-clause-read
returns-in-Ok-network_of-clause-read g c three = inr (c.answered.ensures.read three)

pub returns-clause-ends : goal.returns-clause-ends
returns-clause-ends g c =
    let file = c.args.file in
    let found = c.in-Ok.found in
    ends_unsaved _ file _ _ _ c.in-Err.error
    (λ line why is. told_so (Finds file 67108865 found) (IsSavedFault file line why) _ (λ files finds. fault_there 67108865 most_saved_is file files found line why (why_there _ c.in-Err.error line why c.in-Err.ensures.error is) finds) (rw c.as_str.ensures at c.in-Ok.ensures.found))
    c.in-Ok.ensures.whole c.find.ensures.later refl (rw c.as_str-in-Err.ensures at c.not_opened.ensures.ends)

pub returns-in-Err-Failed-clause-asked : goal.returns-in-Err-Failed-clause-asked
returns-in-Err-Failed-clause-asked g c = asked_saved c.args.file 67108865 _ _ c.find.result most_saved_is (rw c.as_str.ensures at c.find.ensures.asked)

pub returns-in-Err-Memory-clause-asked : goal.returns-in-Err-Memory-clause-asked
returns-in-Err-Memory-clause-asked g c = asked_saved c.args.file 67108865 _ _ c.find.result most_saved_is (rw c.as_str.ensures at c.find.ensures.asked)

pub returns-in-Ok-network_of-clause-asked : goal.returns-in-Ok-network_of-clause-asked
returns-in-Ok-network_of-clause-asked g c = asked_saved c.args.file 67108865 _ _ c.find.result most_saved_is (rw c.as_str.ensures at c.find.ensures.asked)

pub returns-clause-asked : goal.returns-clause-asked
returns-clause-asked g c = asked_saved c.args.file 67108865 _ _ c.find.result most_saved_is (rw c.as_str.ensures at c.find.ensures.asked)
