use Rattle.std.proofs.Common.{arith}
use Rattle.name_resolution.proofs.grammars.Resolver.definitions.Goals as goal
use Rattle.grammar_pairs.specs.Mapped.{mapped_definition}
use Rattle.grammar_pairs.specs.Plain.{definition_of}
use Rattle.name_resolution.proofs.Rows.{row_more, twice_ended}
use Rattle.name_resolution.specs.Resolved.{letter_of}

pub definitions-preserved : goal.definitions-preserved
definitions-preserved c =
    row_more definition_of (λ x. mapped_definition (letter_of c.args.self.now.names.now c.args.self.now.table.now) (definition_of x)) c.args.definitions.now c.definitions.definition-index c.definitions.found.items c.definition-item.result c.push.new.self.items c.in_ok-definition.field-0
    (omega arith) c.definition-item.is c.in_ok-push.ensures.items c.in_ok-definition.ensures c.definitions.invariant

pub returns : goal.returns
returns c = twice_ended definition_of definition_of (mapped_definition (letter_of c.args.self.now.names.now c.args.self.now.table.now)) c.args.definitions.now c.definitions.definition-index c.definitions.found.items (omega arith) c.definitions.invariant
