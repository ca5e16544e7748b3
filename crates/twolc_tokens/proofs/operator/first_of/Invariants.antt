use Rattle.std.proofs.Common.{◌≡◌, drop}
use Rattle.twolc_tokens.specs.Reading.{first_of}
use Rattle.twolc_tokens.proofs.operator.first_of.Given as goal

abbrev pub invariant-loop-operator : goal.invariant-loop-operator
invariant-loop-operator l = first_of (drop l.operator-index l.operators) l.text ≡ first_of l.operators l.text
