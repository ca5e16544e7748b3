use Rattle.std.proofs.Common.{ap, refl, inl, inr}
use Rattle.fsm_program.specs.Ends.{for_look, no_memory}
use Rattle.fsm_program.proofs.Endings.{most_read_is, ends_answered, ends_unloaded, same_count}
use Rattle.fsm_program.proofs.alone.look_up.Goals as goal

pub load-requires : goal.load-requires
load-requires g c = most_read_is

pub returns-in-Err-clause-ends : goal.returns-in-Err-clause-ends
returns-in-Err-clause-ends g c = ends_unloaded _ (for_look _) tt _ _ _ c.in-Err.error c.in-Err.ensures.error c.load.ensures.later refl c.not_loaded.ensures.ends

pub returns-in-Ok-of-clause-ends : goal.returns-in-Ok-of-clause-ends
returns-in-Ok-of-clause-ends g c =
    ends_answered _ _ _ c.answered.result c.in-Ok.ensures.whole c.load.ensures.later (λ is. let none = c.answered.ensures.none is in (ap (λ i. g.I.Source.left i) none.0, ap (λ o. g.O.Sink.held o) none.1))
    c.in-Ok.ready _ c.in-Ok-of.network c.in-Ok.ensures.loaded c.in-Ok-of.ensures.name c.in-Ok-of.ensures.glosses c.in-Ok-of.ensures.shows c.answered.ensures.answered

pub returns-in-Ok-of-clause-unread : goal.returns-in-Ok-of-clause-unread
returns-in-Ok-of-clause-unread g c either =
    elim either [
      | inl one ↦ absurd (c.answered.ensures.status.0 one)
      | inr others ↦ elim others [ inl two ↦ absurd (c.answered.ensures.status.1 two) | inr five ↦ (c.answered.ensures.none five).0 ]
    ]

pub returns-in-Ok-of-clause-unread_declined : goal.returns-in-Ok-of-clause-unread_declined
returns-in-Ok-of-clause-unread_declined g c seven = absurd (c.answered.ensures.status.2 seven)

pub returns-in-Ok-of-clause-unwritten : goal.returns-in-Ok-of-clause-unwritten
returns-in-Ok-of-clause-unwritten g c five = (c.answered.ensures.none five).1

pub returns-in-Ok-of-clause-read : goal.returns-in-Ok-of-clause-read
returns-in-Ok-of-clause-read g c three = inr (c.answered.ensures.read three)

pub returns-in-Err-of-clause-ends : goal.returns-in-Err-of-clause-ends
returns-in-Err-of-clause-ends g c = no_memory (for_look _) refl tt (same_count _ _ c.load.ensures.later c.in-Ok.ensures.whole) refl refl refl
