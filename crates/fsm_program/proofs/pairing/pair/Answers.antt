use Rattle.std.proofs.Common.{ap, refl, inl, inr}
use Rattle.named_networks.specs.Responses.{refusal}
use Rattle.fsm_program.specs.Ends.{for_pairs, no_memory}
use Rattle.fsm_program.proofs.Endings.{most_read_is, ends_paired, ends_told, ends_unloaded, same_count}
use Rattle.fsm_program.proofs.pairing.pair.Goals as goal

pub load-requires : goal.load-requires
load-requires g c = most_read_is

pub returns-in-Err-clause-ends : goal.returns-in-Err-clause-ends
returns-in-Err-clause-ends g c = ends_unloaded _ (for_pairs _) tt _ _ _ c.in-Err.error c.in-Err.ensures.error c.load.ensures.later refl c.not_loaded.ensures.ends

pub returns-in-Ok-Rules-clause-ends : goal.returns-in-Ok-Rules-clause-ends
returns-in-Ok-Rules-clause-ends g c =
    ends_paired _ _ _ c.answered.result c.in-Ok.ensures.whole c.load.ensures.later (λ is. let none = c.answered.ensures.none is in (ap (λ i. g.I.Source.left i) none.0, ap (λ o. g.O.Sink.held o) none.1))
    c.in-Ok.ready _ c.in-Ok-Rules.rules c.in-Ok.ensures.loaded (rw c.in-Ok-Rules.field-0-is at c.in-Ok-Rules.ensures) c.answered.ensures.answered

pub returns-in-Ok-Rules-clause-unread : goal.returns-in-Ok-Rules-clause-unread
returns-in-Ok-Rules-clause-unread g c either =
    elim either [
      | inl one ↦ absurd (c.answered.ensures.status.0 one)
      | inr others ↦ elim others [ inl two ↦ absurd (c.answered.ensures.status.1 two) | inr five ↦ (c.answered.ensures.none five).0 ]
    ]

pub returns-in-Ok-Rules-clause-unread_declined : goal.returns-in-Ok-Rules-clause-unread_declined
returns-in-Ok-Rules-clause-unread_declined g c seven = absurd (c.answered.ensures.status.2 seven)

pub returns-in-Ok-Rules-clause-unwritten : goal.returns-in-Ok-Rules-clause-unwritten
returns-in-Ok-Rules-clause-unwritten g c five = (c.answered.ensures.none five).1

pub returns-in-Ok-Rules-clause-read : goal.returns-in-Ok-Rules-clause-read
returns-in-Ok-Rules-clause-read g c three = inr (c.answered.ensures.read three)

pub returns-in-Ok-Refusal-clause-ends : goal.returns-in-Ok-Refusal-clause-ends
returns-in-Ok-Refusal-clause-ends g c =
    ends_told _ (for_pairs _) _ _ _ c.in-Ok.ready (refusal c.in-Ok-Refusal.line.items) c.in-Ok.ensures.loaded c.in-Ok.ensures.whole
    (λ said from. (c.in-Ok-Refusal.line.items, refl, (rw c.in-Ok-Refusal.field-0-is at c.in-Ok-Refusal.ensures) said from)) refl (rw c.deref.ensures.value at c.said.ensures.said)

pub returns-clause-ends : goal.returns-clause-ends
returns-clause-ends g c = no_memory (for_pairs _) refl tt (same_count _ _ c.load.ensures.later c.in-Ok.ensures.whole) refl refl refl
