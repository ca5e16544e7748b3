use Rattle.std.proofs.Common.{refl, rules}
use Rattle.name_resolution.proofs.Parts.{rule_made}
use Rattle.name_resolution.proofs.grammars.Resolver.rule.Goals as goal
use Rattle.name_resolution.specs.Resolved.{letter_of}

pub returns-clause-rule : goal.returns-clause-rule
returns-clause-rule c =
    rule_made (letter_of c.args.self.now.names.now c.args.self.now.table.now) c.args.rule.now
    (record { name = c.in_ok-name.name; line = c.args.rule.now.line; pair = c.in_ok-pair.pair; kind = c.args.rule.now.kind; contexts = c.in_ok-contexts.contexts })
    (search rules) c.in_ok-pair.ensures.up c.in_ok-pair.ensures.low refl (rw c.deref.ensures.value at c.in_ok-contexts.ensures)
