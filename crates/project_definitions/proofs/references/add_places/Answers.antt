use Rattle.std.proofs.Common.{◌+◌, ◌++◌, drop, sym, ap, ◌∙◌, arith, append-nil}
use Rattle.std.proofs.lemmas.List.{drop_all, drop_more}
use Rattle.std.specs.List.{flat_map}
use Rattle.expr_leaves.specs.Leaves.{seen}
use Rattle.expr_leaves.proofs.Behind.{go_on}
use Rattle.project_definitions.specs.Referring.{place_in}
use Rattle.project_definitions.proofs.references.add_places.Goals as goal

pub leaves-preserved : goal.leaves-preserved
leaves-preserved c =
    go_on c.leaves.places.items c.add_place.new.places.items _ (flat_map (place_in c.args.count) (seen (drop (c.leaves.leaf-index + 1) c.args.leaves.now))) _ _ c.in_ok-add_place.ensures
    (ap (λ z. flat_map (place_in c.args.count) (seen z)) (drop_more c.args.leaves.now c.leaves.leaf-index _ (omega arith))) c.leaves.invariant

pub returns : goal.returns
returns c =
    sym (append-nil c.leaves.places.items) ∙ ap (λ z. c.leaves.places.items ++ flat_map (place_in c.args.count) (seen z)) (sym (drop_all c.leaves.leaf-index c.args.leaves.now (omega arith)))
    ∙ c.leaves.invariant
