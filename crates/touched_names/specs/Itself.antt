-- The definitions of a project that a change touches by themselves, over numbers.
use Rattle.std.specs.Prelude.{◌≡◌, ◌⊎◌, ℕ, List, IsTrue, Some, length, map, slice_get}
use Rattle.fsm_base.specs.Symbols.{number_of}
use Rattle.body_equality.specs.Renumbered.{number_at, renumbered}
use Rattle.body_equality.specs.declared.renumbering.Renumbering.{Renumbering}
use Rattle.word_relations.specs.Words.{IsDistinct}
use Rattle.project_definitions.specs.Bodies.{mapped_body}
use Rattle.project_definitions.specs.Plain.{body_of}
use Rattle.project_definitions.specs.declared.definition.Definition.{Definition}
use Rattle.touched_names.specs.Bodies.{uses_symbols}

abbrev pub names_in : List Definition → List (List ℕ)
names_in definitions = map (λ d. d.name) definitions

-- the places of texts among others; one that isn't there has the next place
abbrev pub places_among : List (List ℕ) → List (List ℕ) → List ℕ
places_among others texts = map (λ text. number_of text others) texts

-- the symbols and the names of the new project by their numbers in the old one
pub record AreNumbers (old_symbols new_symbols : List (List ℕ)) (old new : List Definition) (numbers : Renumbering) : Type 0 where
  pub symbols : IsDistinct old_symbols → numbers.symbols.items ≡ places_among old_symbols new_symbols
  pub names : IsDistinct (names_in old) → numbers.names.items ≡ places_among (names_in old) (names_in new)
  pub count : length numbers.names.items ≡ length new

-- the old definition at this place is the new one
abbrev pub IsKept : List Definition → Renumbering → ℕ → Definition → Type 0
IsKept old numbers place d = (before : Definition) × (slice_get old place ≡ Some before) × (body_of before.body ≡ mapped_body (renumbered numbers) (body_of d.body))

-- no old definition is this one, or it uses the alphabet and that has other symbols
abbrev pub IsTouchedItself : List Definition → Renumbering → Type 0 → ℕ → Definition → Type 0
IsTouchedItself old numbers Same place d = (IsKept old numbers place d → ⊥) ⊎ (IsTrue (uses_symbols (body_of d.body)) × (Same → ⊥))

-- the old place of the name of the new definition at a place
abbrev pub number_there : Renumbering → ℕ → ℕ
number_there numbers place = number_at numbers.names.items place
