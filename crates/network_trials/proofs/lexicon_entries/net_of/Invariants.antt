use Rattle.std.proofs.Common.{◌<◌, length}
use Rattle.network_trials.proofs.lexicon_entries.net_of.Given as goal

abbrev pub invariant-loop-letter : goal.invariant-loop-letter
invariant-loop-letter l = l.last < length l.net.finals
