-- The places of the touched names of a project, by definitions that stand for it and for the one before it.
use Rattle.std.specs.Prelude.{◌≡◌, ℕ, List, [], Contains, Some, map, slice_get}
use Rattle.fsm_base.specs.Alphabet.{IsAlphabet, listed, symbols_of, texts_of}
use Rattle.fsm_base.specs.declared.letters.Sym.{Sym}
use Rattle.expr_kinds.specs.declared.form.Form.{Form}
use Rattle.project_meaning.specs.Projects.{Project, names_of}
use Rattle.project_meaning.specs.Touched.{Touched}
use Rattle.project_sources.specs.Sources.{Said, project_in}
use Rattle.project_model.specs.Numbered.{numbers_in}
use Rattle.project_model.specs.Plans.{IsPlan}
use Rattle.project_definitions.specs.Entries.{entry_in, entry_of}
use Rattle.project_definitions.specs.declared.definition.Definition.{Definition}
use Rattle.touched_names.specs.Places.{ArePlaces}

-- Definitions over the numbers of an alphabet stand for what sources say: they are the same, the number of a symbol is its place in the
-- alphabet, and they are a plan's, whatever its glosses are
pub record StandFor (said : Said) (given : List Definition) (symbols : List (Sym × List ℕ)) : Type 0 where
  pub formed : IsAlphabet symbols
  pub alphabet : symbols ≡ listed (project_in said).alphabet (numbers_in (project_in said).alphabet (project_in said).alphabet)
  pub texts : texts_of symbols ≡ (project_in said).alphabet
  pub definitions : map entry_of given ≡ map (entry_in (names_of said.written) (project_in said).alphabet) said.written
  pub forms : List Form
  pub plan : IsPlan (record { definitions = given; symbols = symbols_of symbols; forms = forms; glosses = [] })

-- the definition at this place has a touched name
abbrev pub IsTouchedAt : Project → Project → List Definition → ℕ → Type 0
IsTouchedAt old new definitions place = (d : Definition) × (slice_get definitions place ≡ Some d) × Touched old new d.name

-- the definition at one of these places has this name
abbrev pub IsNamedAt : List Definition → List ℕ → List ℕ → Type 0
IsNamedAt definitions places name = (place : ℕ) × (d : Definition) × Contains places place × (slice_get definitions place ≡ Some d) × (d.name ≡ name)

-- just the places of definitions with touched names, ascending; each touched name has its place there
pub record AreTouched (old new : Project) (definitions : List Definition) (found : List ℕ) : Type 0 where
  pub places : ArePlaces (IsTouchedAt old new definitions) found
  pub names : (name : List ℕ) → Touched old new name → IsNamedAt definitions found name
