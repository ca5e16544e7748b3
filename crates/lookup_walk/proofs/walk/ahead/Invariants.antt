use Rattle.std.proofs.Common.{length}
use Rattle.std.specs.Prelude.{option_copied}
use Rattle.lookup_walk.specs.Walks.{GoesOn}
use Rattle.lookup_walk.proofs.walk.ahead.Given as goal

abbrev pub invariant-moves : goal.invariant-moves
invariant-moves l = GoesOn (option_copied l.ground.rules) l.ground.alphabet.now l.ground.table.now l.ground.finals.now l.state l.word l.at l.rest l.initial.trail l.trail

abbrev pub decreases-moves : goal.decreases-moves
decreases-moves l = length l.rest
