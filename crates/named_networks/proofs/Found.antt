-- What is known of a definition that is found by its name.
use Rattle.std.proofs.Common.{◌≡◌, ℕ, List, Some, slice_get, sym, subst, ◌∙◌}
use Rattle.fsm_base.specs.Alphabet.{symbols_of as symbols_in_order}
use Rattle.fsm_base.specs.declared.letters.Sym.{Sym}
use Rattle.fsa.specs.Complete.{Accepts, Complete}
use Rattle.expr_kinds.specs.Atoms.{kind_at}
use Rattle.expr_kinds.specs.declared.form.Kind.TheVariants.{Language}
use Rattle.expr_spelling.specs.Laws.{IsSpelled}
use Rattle.lang_algebra.specs.Languages.{IsLang}
use Rattle.network_algebra.specs.Networks.{PairsOf}
use Rattle.network_algebra.specs.declared.network.Network.{Network}
use Rattle.project_meaning.specs.Projects.{names_of}
use Rattle.project_sources.specs.Sources.{Said, project_in}
use Rattle.project_meaning.specs.Meaning.{Meaning}
use Rattle.project_store.specs.Building.{IsBuiltAt}
use Rattle.project_store.specs.Loaded.{IsLoadedFrom, LoadedView}
use Rattle.named_networks.specs.Comparisons.{HasWord}
use Rattle.named_networks.specs.Languages.{AreSpelled}
use Rattle.named_networks.proofs.Answered.{language_spelled}

module _ (said : Said) (loaded : LoadedView) (from : IsLoadedFrom said loaded) where
  -- the language of the network there is that of the name
  pub language_there : (place : ℕ) (name : List ℕ) → slice_get (names_of said.written) place ≡ Some name → (n : Network) → IsBuiltAt loaded place n → kind_at loaded.forms place ≡ Language
      → (listed : List (Sym × List ℕ)) → listed ≡ loaded.alphabet → (symbols : List Sym) → symbols ≡ symbols_in_order listed → (lang : Complete Sym) → IsLang symbols (λ word. PairsOf n word word) lang
      → AreSpelled listed (Accepts lang) (HasWord (project_in said) name)
  language_there place name at n built kind listed listed_is symbols symbols_is lang is =
      language_spelled listed (project_in said) name n lang (built.kind ∙ kind)
      (subst (λ (a : List (Sym × List ℕ)). IsSpelled a (PairsOf n) (Meaning (project_in said) name)) (sym listed_is) (built.means said from name at))
      (subst (λ (ls : List Sym). IsLang ls (λ word. PairsOf n word word) lang) symbols_is is)
