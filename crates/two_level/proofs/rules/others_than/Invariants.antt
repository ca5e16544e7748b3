use Rattle.std.proofs.Common.{◌↔◌, Option, take}
use Rattle.std.specs.List.{Contains}
use Rattle.fsm_base.specs.declared.letters.Pair.{Pair}
use Rattle.two_level.proofs.KeptStrings.{AmongOthers}
use Rattle.two_level.proofs.rules.others_than.Given as goal

abbrev pub invariant-loop-other : goal.invariant-loop-other
invariant-loop-other l = (o : Option Pair) → Contains l.others.items o ↔ AmongOthers (take l.other-index l.pairs) l.pair o
