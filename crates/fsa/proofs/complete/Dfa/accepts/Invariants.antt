use Rattle.std.proofs.Common.{◌<◌, ◌↔◌, length, drop}
use Rattle.fsa.specs.Complete.{Accepts, AcceptsFrom}
use Rattle.fsa.proofs.complete.Dfa.accepts.Given as goal

abbrev pub invariant-loop-letter : goal.invariant-loop-letter
invariant-loop-letter g l =
    (l.state < length l.self.finals) × (AcceptsFrom l.self l.state (drop l.letter-index l.word) ↔ Accepts l.self l.word)
