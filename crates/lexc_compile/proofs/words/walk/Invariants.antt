use Rattle.std.proofs.Common.{take}
use Rattle.lexc_compile.specs.Built.{Walks}
use Rattle.lexc_compile.proofs.words.walk.Given as goal

abbrev pub invariant-loop-letter : goal.invariant-loop-letter
invariant-loop-letter l = Walks l.from (take l.letter-index l.tape) l.fn.m l.fn.steps l.m l.steps l.at
