use Rattle.std.proofs.Common.{◌≡◌, List, Some, true, false, refl, sym, subst, ◌∙◌, arith}
use Rattle.std.specs.List.{slice_get}
use Rattle.word_relations.proofs.Places.{slice_get-set_other, slice_get-set_same}
use Rattle.lookup.specs.declared.walk.Leaving.{Leaving}
use Rattle.lookup.proofs.Moves.{unknown_more}
use Rattle.lookup.proofs.walk.keep.Goals as goal

pub unknown-preserved : goal.unknown-preserved
unknown-preserved c = record {
  same = λ n known is.
      let one = unknown_more c.unknown.leaving.items (record { is_known = false; moves = c.new.result }) n known refl is in
      let before = c.unknown.invariant.same n known is in (
        λ h. before.0 (one.0 (subst (λ (ls : List Leaving). slice_get ls n ≡ Some known) c.in_ok-push.ensures.items h)),
        λ h. subst (λ (ls : List Leaving). slice_get ls n ≡ Some known) (sym c.in_ok-push.ensures.items) (one.1 (before.1 h)),
      );
}

pub returns-clause-own : goal.returns-clause-own
returns-clause-own c =
    slice_get-set_same c.unknown.leaving.items c.args.number _ (omega (arith, c.unknown-test.false, c.len.ensures, c.unknown.leaving.ok))

pub returns-clause-others : goal.returns-clause-others
returns-clause-others c = λ n known apart is.
    let own : Leaving = record { is_known = true; moves = c.args.moves } in
    let same = slice_get-set_other c.unknown.leaving.items c.args.number n own apart in
    let before = c.unknown.invariant.same n known is in
    (λ h. before.0 (sym same ∙ h), λ h. same ∙ before.1 h)
