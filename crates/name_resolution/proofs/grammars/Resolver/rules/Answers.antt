use Rattle.std.proofs.Common.{arith}
use Rattle.name_resolution.proofs.grammars.Resolver.rules.Goals as goal
use Rattle.grammar_pairs.specs.Mapped.{mapped_rule}
use Rattle.grammar_pairs.specs.Plain.{rule_of}
use Rattle.name_resolution.proofs.Rows.{row_ended, row_more, twice_ended}
use Rattle.name_resolution.specs.Resolved.{letter_of}

pub rules-preserved : goal.rules-preserved
rules-preserved c = record {
  rules =
      row_more rule_of (λ x. mapped_rule (letter_of c.args.self.now.names.now c.args.self.now.table.now) (rule_of x)) c.args.rules.now c.rules.rule-index c.rules.found.items c.rule-item.result c.push.new.self.items c.in_ok-rule.field-0
      (omega arith) c.rule-item.is c.in_ok-push.ensures.items c.in_ok-rule.ensures.rule c.rules.invariant.rules;
  lines =
      row_more (λ r. r.line) (λ r. r.line) c.args.rules.now c.rules.rule-index c.rules.found.items c.rule-item.result c.push.new.self.items c.in_ok-rule.field-0
      (omega arith) c.rule-item.is c.in_ok-push.ensures.items c.in_ok-rule.ensures.line c.rules.invariant.lines;
}

pub returns-clause-rules : goal.returns-clause-rules
returns-clause-rules c = twice_ended rule_of rule_of (mapped_rule (letter_of c.args.self.now.names.now c.args.self.now.table.now)) c.args.rules.now c.rules.rule-index c.rules.found.items (omega arith) c.rules.invariant.rules

pub returns-clause-lines : goal.returns-clause-lines
returns-clause-lines c = row_ended (λ r. r.line) (λ r. r.line) c.args.rules.now c.rules.rule-index c.rules.found.items (omega arith) c.rules.invariant.lines
