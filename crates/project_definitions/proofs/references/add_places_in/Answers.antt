use Rattle.std.proofs.Common.{◌++◌, sym, ap, ◌∙◌}
use Rattle.std.specs.List.{flat_map}
use Rattle.regex_ast.specs.Terms.{term}
use Rattle.expr_leaves.specs.Leaves.{seen}
use Rattle.project_definitions.specs.Referring.{place_in}
use Rattle.name_resolution.proofs.Listed.{listed_is}
use Rattle.project_definitions.proofs.references.add_places_in.Goals as goal

pub returns : goal.returns
returns c =
    c.in_ok-add_places.ensures
    ∙ ap (λ z. c.args.places.now.items ++ z)
    (ap (λ z. flat_map (place_in c.args.count) (seen z)) c.deref.ensures.value ∙ ap (flat_map (place_in c.args.count)) c.in_ok-leaves.ensures
    ∙ sym (listed_is (place_in c.args.count) (term c.args.expr.now)))
