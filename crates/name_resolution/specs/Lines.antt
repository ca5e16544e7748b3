-- The lines of a grammar's rules.
use Rattle.std.specs.Prelude.{ℕ, List, map}
use Rattle.regex_ast.specs.declared.twolc.TwoLevelRule.{TwoLevelRule}

abbrev pub lines_of : {A : Type 0} → List (TwoLevelRule A) → List ℕ
lines_of rules = map (λ r. r.line) rules
