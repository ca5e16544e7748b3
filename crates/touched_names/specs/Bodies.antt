-- Whether a body uses the alphabet, whatever its leaves are.
use Rattle.std.specs.Prelude.{Bool}
use Rattle.std.specs.List.{list_any}
use Rattle.expr_leaves.specs.Alphabet.{uses_alphabet}
use Rattle.project_meaning.specs.Leaves.{expressions_of}
use Rattle.project_meaning.specs.Trees.{Body}

-- one of `?`, `\`, `~`, `$`, `=>` and replacement stands in an expression of it
abbrev pub uses_symbols : {A : Type 0} → Body A → Bool
uses_symbols body = list_any (λ e. uses_alphabet e) (expressions_of body)
