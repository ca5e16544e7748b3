-- The feasible pairs as the program keeps them: each once, in a set.
use Rattle.std.specs.Prelude.{◌&&◌, Bool, List, [], ◌∷◌}
use Rattle.std.specs.Option.{option_eq}
use Rattle.indexmap.specs.IndexSet.{insert_key}
use Rattle.regex_ast.specs.declared.expr.Atom.{Atom}
use Rattle.grammar_weights.specs.Weights.{Letter, is_same_symbol}
use Rattle.grammar_weights.specs.declared.counting.Written.{Written}

-- a pair as it is kept
abbrev pub kept : Letter Atom → Written
kept x = record { up = x.up; low = x.low }

-- whether two kept pairs are one
abbrev pub is_one : Written → Written → Bool
is_one x y = option_eq is_same_symbol x.up y.up && option_eq is_same_symbol x.low y.low

-- a set with these pairs, one after another
abbrev pub all_added : List Written → List Written → List Written
all_added pairs [] = pairs
all_added pairs (x ∷ more) = all_added (insert_key is_one pairs x) more
