use Rattle.std.proofs.Common.{List, ℕ, Some, arith, length, refl, true≢false, ap, sym, ◌∙◌}
use Rattle.std.proofs.lemmas.Bool.Decides.{Decides-eqb}
use Rattle.std.proofs.lemmas.Option.{same_Some, slice_get_read, slice_get_within}
use Rattle.std.proofs.lemmas.Slice.Eq.{slice_eq-Decides}
use Rattle.touched_names.proofs.changes.is_at.Goals as goal

pub returns-in-Some : goal.returns-in-Some
returns-in-Some c =
    let test = slice_eq-Decides Decides-eqb c.in-Some.other.now c.args.text.now c.eq.result c.eq.ensures in
    let h = c.in-Some.ensures.lookup in
    let there = slice_get_read c.args.texts.now (length c.args.texts.now) c.args.place c.in-Some.other.now refl h.3.0 h.1 in (
      λ yes. there ∙ ap (λ (t : List ℕ). Some t) (test.0 yes),
      λ at. test.1 (same_Some c.in-Some.other.now c.args.text.now (sym there ∙ at)),
    )

pub returns-in-None : goal.returns-in-None
returns-in-None c = (
  λ no. absurd (true≢false (sym no)),
  λ at. (let inside = slice_get_within c.args.texts.now c.args.place c.args.text.now at in let past = c.in-None.ensures.lookup.3 in absurd (omega (arith, inside, past))),
)
