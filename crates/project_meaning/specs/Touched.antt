-- The names that a change touches: those whose network may be another one than before.
use Rattle.std.specs.Prelude.{◌↔◌, ℕ, List, Contains, IsTrue}
use Rattle.project_meaning.specs.Leaves.{names_in, body_uses_alphabet}
use Rattle.project_meaning.specs.Projects.{Definition, Project}

-- alphabets of the same symbols
abbrev pub AreSameSymbols : List (List ℕ) → List (List ℕ) → Type 0
AreSameSymbols old new = (symbol : List ℕ) → Contains old symbol ↔ Contains new symbol

-- A name of the new project is touched where the old project has no such definition: its name is new, or its body differs,
-- names and symbols being compared by their texts; where its definition uses the alphabet and that differs; or where its
-- definition refers to a touched name. Where a definition stands doesn't matter
pub data Touched (old new : Project) : List ℕ → Type 0 where
  changed : (d : Definition) → Contains new.definitions d → (Contains old.definitions d → ⊥) → Touched old new d.name
  by_alphabet : (d : Definition) → Contains new.definitions d → IsTrue (body_uses_alphabet d.body) → (AreSameSymbols old.alphabet new.alphabet → ⊥) → Touched old new d.name
  by_name : (d : Definition) (other : List ℕ) → Contains new.definitions d → Contains (names_in d.body) other → Touched old new other → Touched old new d.name
