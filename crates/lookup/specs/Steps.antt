-- Configurations of a transducer on a word (Hopcroft, Motwani and Ullman, Introduction to Automata Theory, section
-- 6.1.4, for automata with a stack): how many symbols were read, and the state that was reached.
use Rattle.std.specs.Prelude.{◌≡◌, ◌+◌, ◌≤◌, ℕ, List, Bool, true, Option, None, Some, Contains, slice_get, length}
use Rattle.fsm_base.specs.declared.letters.Sym.{Sym}
use Rattle.lookup_walk.specs.declared.moves.Move.{Move}
use Rattle.lookup.specs.declared.explored.Config.{Config}

-- reading the symbol, or nothing, leads from the first place of the word to the second
abbrev pub Reads : List Sym → Option Sym → ℕ → ℕ → Type 0
Reads word None i j = j ≡ i
Reads word (Some symbol) i j = (slice_get word i ≡ Some symbol) × (j ≡ i + 1)

-- one step from a configuration writes the letter, or nothing, and leads to the next one, or to the end for None
abbrev pub Steps : List Move → List Bool → List Sym → Config → Option Sym → Option Config → Type 0
Steps moves finals word config letter None =
    (letter ≡ None) × (length word ≤ config.place) × (slice_get finals config.state ≡ Some true)
Steps moves finals word config letter (Some next) =
    (move : Move) × Contains moves move × (move.at.state ≡ config.state) × Reads word move.at.read config.place next.place × (move.write ≡ letter) × (move.to ≡ next.state)

-- the steps along these moves, which lead to this place
abbrev pub Follows : List Move → ℕ → Option Sym → Option Config → Type 0
Follows moves place letter target =
    (move : Move) × Contains moves move × (letter ≡ move.write) × (target ≡ Some (record { place = place; state = move.to }))

-- the step to the end, where the state is final
abbrev pub Ends : List Bool → ℕ → Option Sym → Option Config → Type 0
Ends finals state letter target = (letter ≡ None) × (target ≡ None) × (slice_get finals state ≡ Some true)
