use Rattle.std.proofs.Common.{◌≡◌, map, take}
use Rattle.regex_ast.specs.declared.expr.Atom.{Atom}
use Rattle.regex_ast.specs.declared.twolc.TwoLevelRule.{TwoLevelRule}
use Rattle.pair_lines.proofs.pair_rules.names_of.Given as goal

-- the names so far
abbrev pub invariant-rules : goal.invariant-rules
invariant-rules l = l.names.items ≡ map (λ (r : TwoLevelRule Atom). r.name) (take l.rule-index l.rules)
