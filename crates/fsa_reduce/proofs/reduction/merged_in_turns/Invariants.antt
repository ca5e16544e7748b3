use Rattle.std.proofs.Common.{◌↔◌, List}
use Rattle.fsa.specs.Automaton.{UsesLetter}
use Rattle.fsa.specs.Language.{Accepts}
use Rattle.fsa_reduce.proofs.reduction.merged_in_turns.Given as goal

abbrev pub invariant-loop-pass : goal.invariant-loop-pass
invariant-loop-pass g l = ((x : g.row.L.Denot) → UsesLetter l.m x → UsesLetter l.fn.a x) × ((w : List g.row.L.Denot) → Accepts l.m w ↔ Accepts l.fn.a w)
