use Rattle.std.proofs.Common.{◌≡◌, take}
use Rattle.lexc_compile.specs.Words.{letters_of}
use Rattle.lexc_compile.proofs.chains.letters_of.Given as goal

abbrev pub invariant-loop-edge : goal.invariant-loop-edge
invariant-loop-edge l = l.tape.items ≡ letters_of (take l.edge-index l.edges)
