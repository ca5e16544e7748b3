use Rattle.std.proofs.Common.{◌-◌, length}
use Rattle.pair_lines.proofs.Splitting.{SoFar}
use Rattle.pair_lines.proofs.words.word_len.Given as goal

abbrev pub invariant-bytes : goal.invariant-bytes
invariant-bytes l = SoFar l.bytes l.len l.escaped

abbrev pub decreases-bytes : goal.decreases-bytes
decreases-bytes l = length l.initial.bytes - l.len
