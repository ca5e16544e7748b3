use Rattle.std.proofs.Common.{◌+◌, ◌*◌, take}
use Rattle.std.specs.Prelude.{option_copied}
use Rattle.lookup_walk.specs.Walks.{Adds, Along}
use Rattle.lookup_walk.proofs.walk.+walk.Given as goal

-- by the moves that may be taken one after another
abbrev pub decreases-enter : goal.decreases-enter
decreases-enter l = 4 * l.depth

abbrev pub decreases-go : goal.decreases-go
decreases-go l = 4 * l.depth + 1

abbrev pub decreases-pass : goal.decreases-pass
decreases-pass l = 4 * l.depth + 2

abbrev pub decreases-follow : goal.decreases-follow
decreases-follow l = 4 * l.depth + 3

abbrev pub invariant-follow-moves : goal.invariant-follow-moves
invariant-follow-moves l = Adds l.ground.alphabet.now (Along (option_copied l.ground.rules) l.ground.table.now l.ground.finals.now l.rest.values.now (take l.m-index l.moves) l.rest.word.now) l.initial.trail l.trail
