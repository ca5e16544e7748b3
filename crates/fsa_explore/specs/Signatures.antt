-- The signature of a state: whether it is final, and three numbers for each edge that leaves it (Blom and Orzan, A
-- distributed algorithm for strong bisimulation reduction of state spaces, 2005).
use Rattle.std.specs.Prelude.{◌≡◌, ◌-◌, ◌↔◌, ℕ, List, [], ◌∷◌, Bool, true, false, Option, Some, None, Contains, slice_get}
use Rattle.std.specs.List.{flat_map}
use Rattle.fsa.specs.declared.automaton.Edge.{Edge}
use Rattle.fsa_explore.specs.declared.signatures.Mark.{Mark}

-- whether the state is final
abbrev pub end_number : Bool → ℕ
end_number true = 1
end_number false = 0

-- an edge by its letter, and by the class of the state that it enters, or else by that state
abbrev pub mark_of : Option ℕ → Option ℕ → ℕ → Mark
mark_of (Some letter) (Some class) state = record { letter = letter; kind = 0; number = class }
mark_of (Some letter) None state = record { letter = letter; kind = 1; number = state }
mark_of None (Some class) state = record { letter = 0; kind = 2; number = class }
mark_of None None state = record { letter = 0; kind = 3; number = state }

-- the class of a state, where it is known: the classes of the states from the last one back
abbrev pub known_class : List ℕ → ℕ → ℕ → Option ℕ
known_class known states state = slice_get known (states - 1 - state)

abbrev pub edge_mark : List ℕ → ℕ → Edge ℕ → Mark
edge_mark known states e = mark_of e.letter (known_class known states e.to) e.to

abbrev pub numbers : Mark → List ℕ
numbers mark = mark.letter ∷ mark.kind ∷ mark.number ∷ []

-- the list says whether the state is final, and has these marks, in some order
abbrev pub IsSignature : Bool → List Mark → List ℕ → Type 0
IsSignature is_final marks list = (listed : List Mark) × (list ≡ end_number is_final ∷ flat_map numbers listed) × ((m : Mark) → Contains listed m ↔ Contains marks m)
