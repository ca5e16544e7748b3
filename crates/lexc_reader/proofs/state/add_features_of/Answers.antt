use Rattle.lexc_reader.proofs.Features.{both_sides}
use Rattle.lexc_reader.proofs.state.add_features_of.Goals as goal

pub returns-in_ok-add_features-2 : goal.returns-in_ok-add_features-2
returns-in_ok-add_features-2 c =
    let first = rw c.deref.ensures.value at c.in_ok-add_features.ensures in
    let second = rw c.deref-in-Sides.ensures.value at c.in_ok-add_features-2.ensures in
    rw c.in-Sides.is (both_sides c.args.features.now c.add_features.new.features c.add_features-in-Sides.new.features c.in-Sides.upper.items c.in-Sides.lower.items first second)
