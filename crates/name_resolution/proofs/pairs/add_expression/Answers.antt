use Rattle.std.proofs.Common.{◌++◌, ◌∙◌, ap, map}
use Rattle.std.specs.List.{flat_map}
use Rattle.expr_leaves.specs.Leaves.{seen}
use Rattle.name_resolution.proofs.FormListing.{parts_listed}
use Rattle.name_resolution.proofs.pairs.add_expression.Goals as goal
use Rattle.name_resolution.specs.Leaves.{pairs_behind, pairs_in_part}
use Rattle.grammar_pairs.specs.Plain.{part_of}
use Rattle.regex_ast.specs.Terms.{term}

pub returns : goal.returns
returns g c =
    c.in_ok-add_parts.ensures
    ∙ ap (λ z. pairs_behind c.args.found.now.items ++ z)
    (ap (λ z. flat_map pairs_in_part (map part_of (seen z))) c.deref.ensures.value ∙ ap (λ z. flat_map pairs_in_part (map part_of z)) c.in_ok-leaves.ensures ∙ parts_listed pairs_in_part (term c.args.expr.now))
