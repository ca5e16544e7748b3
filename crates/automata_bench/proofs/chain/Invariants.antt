use Rattle.std.proofs.Common.{◌<◌, length}
use Rattle.std.specs.Prelude.{Contains}
use Rattle.fsm_base.specs.declared.letters.Sym.{Sym}
use Rattle.fsa.specs.Automaton.{UsesLetter}
use Rattle.automata_bench.proofs.chain.Given as goal

abbrev pub invariant-edges : goal.invariant-edges
invariant-edges l = record {
  inside : l.last < length l.m.finals;
  letters : (x : Sym) → UsesLetter l.m x → Contains l.letters x;
}
