-- Words of one letter, and the pairs that cross them.
use Rattle.std.specs.Prelude.{List, Some, map}
use Rattle.std.specs.List.{flat_map}
use Rattle.fsm_base.specs.declared.letters.Sym.{Sym}
use Rattle.fsm_base.specs.declared.letters.Pair.{Pair}
use Rattle.fsa.specs.declared.automaton.Edge.{Edge}

-- the edge of a word of one letter, from the start to the second state
abbrev pub only_step : {L : Type 0} → L → Edge L
only_step x = record { from = 0; letter = Some x; to = 1 }

abbrev pub crossed : Sym → Sym → Pair
crossed x y = record { up = Some x; low = Some y }

-- each of the upper letters with each of the lower ones
abbrev pub crossed_pairs : List Sym → List Sym → List Pair
crossed_pairs xs ys = flat_map (λ x. map (λ y. crossed x y) ys) xs
