use Rattle.std.proofs.Common.{◌≡◌, ◌∙◌, Some, get_or, refl, inl, inr, subst, sym, ap, arith}
use Rattle.std.specs.List.{slice_get}
use Rattle.std.proofs.lemmas.Bool.{cases_lt}
use Rattle.std.proofs.lemmas.List.Elements.{Contains-get_or}
use Rattle.std.proofs.lemmas.Option.{slice_get-get_or}
use Rattle.word_relations.proofs.Places.{same_at}
use Rattle.lookup.specs.declared.walk.Move.{Move}
use Rattle.lookup.proofs.walk.set_along.Goals as goal

pub returns-then-other-byte : goal.returns-then-other-byte
returns-then-other-byte c =
    let moves = c.args.moves.now in
    let i = c.loop-other.other-index in
    let none : Move = record { byte = 0; to = 0 } in
    (get_or moves i none, Contains-get_or moves i none c.loop-other-test.true, c.if-other-byte.true, refl)

pub loop-other-preserved : goal.loop-other-preserved
loop-other-preserved c = λ k x l there is.
    let moves = c.args.moves.now in
    let i = c.loop-other.other-index in
    let none : Move = record { byte = 0; to = 0 } in
    elim (cases_lt k i) as (λ _. ⊥) [
      | inl before ↦ c.loop-other.invariant k x before there is
      | inr behind ↦
          let e : k ≡ i = omega arith in
          let same = same_at moves i x (get_or moves i none) (subst (λ n. slice_get moves n ≡ Some x) e there) (slice_get-get_or moves i none c.loop-other-test.true) in
          c.if-other-byte.false (sym (ap (λ (m : Move). m.byte) same) ∙ is)
    ]
