use Rattle.std.proofs.Common.{◌≡◌, ◌+◌, List, None, Option, Some, arith, length, rules, slice_get, subst, sym}
use Rattle.network_algebra.specs.declared.network.Network.{Network}
use Rattle.project_store.proofs.Networks.{none_pushed}
use Rattle.project_store.proofs.building.none_built.Goals as goal

pub places-preserved : goal.places-preserved
places-preserved c = record {
  count = search rules;
  none =
      let all = none_pushed c.places.built.items c.places.invariant.none in
      let size : length c.push.new.self.items ≡ length c.places.built.items + 1 = search rules in
      λ place within. subst (λ (xs : List (Option Network)). slice_get xs place ≡ Some None) (sym c.in_ok-push.ensures.items) (all place (omega (arith, within, size)));
}

pub returns-clause-none : goal.returns-clause-none
returns-clause-none c place within = let count = c.places.invariant.count in c.places.invariant.none place (omega (arith, within, count, c.places-test.false))
