use Rattle.std.proofs.Common.{◌↔◌, take}
use Rattle.std.specs.List.{Contains}
use Rattle.fsm_base.specs.declared.letters.Sym.{Sym}
use Rattle.grammar_pairs.specs.Fitting.{IsNumber, IsTwiceOf}
use Rattle.grammar_pairs.proofs.fitting.numbers_of_twice.Given as goal

-- the numbers so far
abbrev pub invariant-symbols : goal.invariant-symbols
invariant-symbols l = (n : Sym) → Contains l.numbers.items n ↔ IsNumber l.fn.pairs (IsTwiceOf (take l.symbol-index l.symbols)) n
