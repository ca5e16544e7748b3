use Rattle.std.proofs.Common.{◌≡◌, ◌++◌}
use Rattle.replace_rules.specs.Letters.{brackets}
use Rattle.replace_rules.proofs.letters.add_brackets.Given as goal

abbrev pub invariant-loop-place : goal.invariant-loop-place
invariant-loop-place l = l.marks.items ≡ l.initial.marks.items ++ brackets l.place
