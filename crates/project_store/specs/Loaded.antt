-- A project that is loaded: its definitions over the numbers of its symbols with their forms, its alphabet, and its glosses.
use Rattle.std.specs.Prelude.{◌≡◌, ◌↔◌, ℕ, List, All, Contains, map}
use Rattle.fsm_base.specs.Alphabet.{IsAlphabet, listed, symbols_of, texts_of}
use Rattle.fsm_base.specs.declared.letters.Sym.{Sym}
use Rattle.word_relations.specs.Answers.{IsInOrder}
use Rattle.project_meaning.specs.Projects.{Project, Defines, names_of}
use Rattle.expr_kinds.specs.declared.form.Form.{Form}
use Rattle.interlinear.specs.Glosses.{Entry as Glossed}
use Rattle.project_sources.specs.Laws.{IsSoundProject}
use Rattle.project_sources.specs.Sources.{Said, project_in}
use Rattle.project_model.specs.Numbered.{IsBodyOver, numbers_in}
use Rattle.project_model.specs.Plans.{IsPlan, PlanView}
use Rattle.project_definitions.specs.Entries.{entry_in, entry_of}
use Rattle.project_definitions.specs.declared.definition.Definition.{Definition}

pub record LoadedView : Type 0 where
  pub definitions : List Definition
  pub alphabet : List (Sym × List ℕ)
  pub forms : List Form
  pub glosses : List Glossed

abbrev pub plan_in : LoadedView → PlanView
plan_in loaded = record { definitions = loaded.definitions; symbols = symbols_of loaded.alphabet; forms = loaded.forms; glosses = loaded.glosses }

-- the definitions are those that were said, over numbers of symbols, and the alphabet has the same symbols
pub record IsLoadedFrom (said : Said) (loaded : LoadedView) : Type 0 where
  pub formed : IsAlphabet loaded.alphabet
  pub alphabet : loaded.alphabet ≡ listed (project_in said).alphabet (numbers_in (project_in said).alphabet (project_in said).alphabet)
  pub texts : texts_of loaded.alphabet ≡ (project_in said).alphabet
  pub definitions : map entry_of loaded.definitions ≡ map (entry_in (names_of said.written) (project_in said).alphabet) said.written
  pub leaves : All (λ d. IsBodyOver (project_in said).alphabet d.body) (project_in said).definitions
  pub plan : IsPlan (plan_in loaded)
  pub sound : IsSoundProject (project_in said)

-- the names of a project by their bytes, each once
pub record AreNames (project : Project) (names : List (List ℕ)) : Type 0 where
  pub all : (name : List ℕ) → Defines project name ↔ Contains names name
  pub in_order : IsInOrder names
