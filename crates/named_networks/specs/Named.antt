-- What two names are found to be.
use Rattle.std.specs.Prelude.{◌≡◌, ◌<◌, ⊤, ℕ, List, Some, length, slice_get}
use Rattle.expr_kinds.specs.Atoms.{kind_at}
use Rattle.expr_kinds.specs.declared.form.Kind.TheVariants.{Language}
use Rattle.project_meaning.specs.Projects.{names_of}
use Rattle.project_sources.specs.Sources.{Said, project_in}
use Rattle.project_store.specs.Loaded.{LoadedView}
use Rattle.reply_meaning.specs.Replies.{headed}
use Rattle.named_networks.specs.Comparisons.{IsLanguage, IsWhyNot}
use Rattle.named_networks.specs.declared.comparing.Named.{Named}
use Rattle.named_networks.specs.declared.comparing.Named.TheVariants.{Languages, Refused}

-- a definition stands at this place, and is a language
pub record IsLanguagePlace (loaded : LoadedView) (place : ℕ) : Type 0 where
  pub within : place < length loaded.definitions
  pub kind : kind_at loaded.forms place ≡ Language

abbrev pub ArePlaces : LoadedView → Named → Type 0
ArePlaces loaded (Languages first second) = IsLanguagePlace loaded first × IsLanguagePlace loaded second
ArePlaces loaded (Refused line) = ⊤

-- the name is a language, and its definition stands at this place
abbrev pub IsLanguageAt : Said → List ℕ → ℕ → Type 0
IsLanguageAt said name place = IsLanguage (project_in said) name × (slice_get (names_of said.written) place ≡ Some name)

-- two languages, or the line that says why they aren't
abbrev pub IsNamed : Said → ℕ → List ℕ → List ℕ → Named → Type 0
IsNamed said version first second (Languages one other) = IsLanguageAt said first one × IsLanguageAt said second other
IsNamed said version first second (Refused line) = (why : List ℕ) × IsWhyNot (project_in said) first second why × (line.items ≡ headed version why)
