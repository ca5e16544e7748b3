use Rattle.std.proofs.Common.{rules}
use Rattle.name_resolution.proofs.Parts.{definition_made}
use Rattle.name_resolution.proofs.grammars.Resolver.definition.Goals as goal
use Rattle.name_resolution.specs.Resolved.{letter_of}

pub returns : goal.returns
returns c =
    definition_made (letter_of c.args.self.now.names.now c.args.self.now.table.now) c.args.definition.now (record { name = c.in_ok-name.name; expr = c.in_ok-expr.expr }) (search rules) c.in_ok-expr.ensures
