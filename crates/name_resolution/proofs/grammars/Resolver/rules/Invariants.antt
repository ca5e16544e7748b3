use Rattle.std.proofs.Common.{◌≡◌, map, take}
use Rattle.name_resolution.proofs.grammars.Resolver.rules.Given as goal
use Rattle.grammar_pairs.specs.Mapped.{mapped_rule}
use Rattle.name_resolution.specs.Lines.{lines_of}
use Rattle.grammar_pairs.specs.Plain.{rule_of}
use Rattle.name_resolution.specs.Resolved.{letter_of}

-- those so far
abbrev pub invariant-rules : goal.invariant-rules
invariant-rules l = record {
  rules : map rule_of l.found.items ≡ map (λ x. mapped_rule (letter_of l.self.names.now l.self.table.now) (rule_of x)) (take l.rule-index l.rules);
  lines : lines_of l.found.items ≡ lines_of (take l.rule-index l.rules);
}
