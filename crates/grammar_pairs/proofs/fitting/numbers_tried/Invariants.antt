use Rattle.std.proofs.Common.{◌↔◌, ◌<◌}
use Rattle.std.specs.List.{Contains}
use Rattle.fsm_base.specs.declared.letters.Sym.{Sym}
use Rattle.grammar_pairs.specs.Fitting.{Fits, IsNumber}
use Rattle.grammar_pairs.specs.Plain.{pair_of}
use Rattle.grammar_pairs.proofs.fitting.numbers_tried.Given as goal

-- the numbers so far
abbrev pub invariant-pairs : goal.invariant-pairs
invariant-pairs l = (n : Sym) → Contains l.numbers.items n ↔ ((n.0 < l.place) × IsNumber l.fn.pairs (Fits l.fn.sets (pair_of l.fn.atom)) n)
