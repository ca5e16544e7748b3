use Rattle.std.proofs.Common.{◌+◌, ap, arith, drop, map}
use Rattle.std.specs.List.{flat_map}
use Rattle.expr_leaves.proofs.Behind.{go_on}
use Rattle.name_resolution.proofs.pairs.add_definitions.Goals as goal
use Rattle.name_resolution.specs.Leaves.{pairs_behind, pairs_in_definition}
use Rattle.grammar_pairs.specs.Plain.{definition_of}
use Rattle.word_relations.proofs.Behind.{left_behind}

pub definitions-preserved : goal.definitions-preserved
definitions-preserved g c =
    let d = c.definition-item.result in
    go_on (pairs_behind c.definitions.found.items) (pairs_behind c.add_expression.new.found.items) (pairs_in_definition (definition_of d))
    (flat_map pairs_in_definition (map definition_of (drop (c.definitions.definition-index + 1) c.args.definitions.now))) _ _ c.in_ok-add_expression.ensures
    (ap (λ z. flat_map pairs_in_definition (map definition_of z)) (left_behind c.args.definitions.now c.definitions.definition-index d (omega arith) c.definition-item.is)) c.definitions.invariant
