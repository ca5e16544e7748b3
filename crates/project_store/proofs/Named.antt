-- The names of a project that is loaded, and why it is the one that was said.
use Rattle.std.proofs.Common.{◌≡◌, ◌+◌, ◌<◌, ◌≤◌, ◌++◌, ℕ, List, [], ◌∷◌, length, take, get_or, map, All, Some, slice_get, sym, ap, subst, ◌∙◌, Contains}
use Rattle.std.proofs.lemmas.List.{take_all, take_more}
use Rattle.std.proofs.lemmas.List.Elements.{All-append, All-cons, All-contains, All-nil}
use Rattle.std.proofs.lemmas.Option.{slice_get-get_or}
use Rattle.std.proofs.lemmas.List.Sorted.{Contains-permutation, IsPermutation-sym}
use Rattle.std.specs.Cmp.Lexicographic.{slice_cmp}
use Rattle.std.specs.List.Sorted.{IsPermutation, IsSorted}
use Rattle.std.specs.Ordering.{nat_cmp}
use Rattle.fsm_base.specs.Alphabet.{IsAlphabet, listed, symbols_of, texts_of}
use Rattle.fsm_base.specs.declared.letters.Sym.{Sym}
use Rattle.word_relations.specs.Words.{IsDistinct}
use Rattle.word_relations.proofs.Members.{Contains-map, Contains-map_cases}
use Rattle.project_meaning.specs.Projects.{Definition as Meant, Defines, Written, definition_in, names_of}
use Rattle.project_sources.specs.Laws.{IsSoundProject}
use Rattle.project_sources.specs.Sources.{Said, project_in}
use Rattle.project_model.specs.Numbered.{numbers_in}
use Rattle.project_model.specs.Plans.{IsPlan, PlanView}
use Rattle.project_model.specs.Stands.{Stands}
use Rattle.project_definitions.specs.Entries.{entry_in, entry_of}
use Rattle.project_definitions.specs.declared.definition.Definition.{Definition}
use Rattle.project_store.specs.Loaded.{AreNames, IsLoadedFrom, LoadedView}
use Rattle.project_store.proofs.Ordered.{in_order_from_sorted}
use Rattle.project_store.proofs.Shown.{names_differ}
use Rattle.project_model.proofs.Alphabets.{symbols_of-listed}
use Rattle.project_store.proofs.Spelled.{whole, whole_texts, with_different}

-- the names that are written are those that the project defines
defined_there : (said : Said) (name : List ℕ) → Defines (project_in said) name → Contains (names_of said.written) name
defined_there said name (e, among, named) =
    let (w, there, is) = Contains-map_cases (definition_in (names_of said.written)) said.written e among in
    subst (Contains (names_of said.written)) (ap (λ (x : Meant). x.name) is ∙ named) (Contains-map (λ (x : Written). x.name) said.written w there)

defined_back : (said : Said) (name : List ℕ) → Contains (names_of said.written) name → Defines (project_in said) name
defined_back said name among =
    let (w, there, is) = Contains-map_cases (λ (x : Written). x.name) said.written name among in
    (definition_in (names_of said.written) w, Contains-map (definition_in (names_of said.written)) said.written w there, is)

-- names, sorted
pub names_are : (said : Said) (loaded : LoadedView) → IsLoadedFrom said loaded → (found sorted : List (List ℕ)) → found ≡ names_of said.written → IsPermutation found sorted → IsSorted (slice_cmp nat_cmp) sorted → AreNames (project_in said) sorted
names_are said loaded from found sorted found_is moved up = record {
  all = λ name. (
    λ defined. Contains-permutation found sorted name moved (subst (λ (ns : List (List ℕ)). Contains ns name) (sym found_is) (defined_there said name defined)),
    λ among. defined_back said name (subst (λ (ns : List (List ℕ)). Contains ns name) found_is (Contains-permutation sorted found name (IsPermutation-sym found sorted moved) among)),
  );
  in_order = in_order_from_sorted found sorted (subst IsDistinct (sym found_is) (names_differ said loaded from)) moved up;
}

-- a plan that stands with an empty table, and its alphabet, are the project that was said
module _ (said : Said) (plan : PlanView) (table : List (List ℕ)) (alphabet : List (Sym × List ℕ)) (is : Stands said [] table plan) (sound : IsSoundProject (project_in said)) (formed : IsPlan plan) (alphabet_is : alphabet ≡ listed table plan.symbols) (is_alphabet : IsAlphabet alphabet) where
  table_is : table ≡ (project_in said).alphabet
  table_is = is.table ∙ with_different [] (project_in said).alphabet is.distinct

  alphabet_whole : alphabet ≡ whole (project_in said).alphabet
  alphabet_whole =
      alphabet_is ∙ ap (λ (t : List (List ℕ)). listed t plan.symbols) table_is
      ∙ ap (listed (project_in said).alphabet) (is.symbols ∙ ap (λ (t : List (List ℕ)). numbers_in t (project_in said).alphabet) table_is)

  pub loaded_is : IsLoadedFrom said (record { definitions = plan.definitions; alphabet = alphabet; forms = plan.forms; glosses = plan.glosses })
  loaded_is = record {
    formed = is_alphabet;
    alphabet = alphabet_whole;
    texts = ap texts_of alphabet_whole ∙ whole_texts (project_in said).alphabet;
    definitions = subst (λ (t : List (List ℕ)). map entry_of plan.definitions ≡ map (entry_in (names_of said.written) t) said.written) table_is is.definitions;
    leaves = is.leaves;
    plan = subst (λ (s : List Sym). IsPlan (record { definitions = plan.definitions; symbols = s; forms = plan.forms; glosses = plan.glosses })) (sym (ap symbols_of alphabet_is ∙ symbols_of-listed table plan.symbols)) formed;
    sound = sound;
  }

-- what stands at a place of a list, and what no item of it is
pub stands_at : (items ds : List Definition) (i : ℕ) (x : Definition) → items ≡ ds → i < length items → x ≡ get_or items i x → slice_get ds i ≡ Some x
stands_at items ds i x same below is = subst (λ (z : List Definition). slice_get z i ≡ Some x) same (slice_get-get_or items i x below ∙ ap (λ (d : Definition). Some d) (sym is))

pub none_more : (P : Definition → Type 0) (items : List Definition) (i : ℕ) (x : Definition) → i < length items → x ≡ get_or items i x → All P (take i items) → P x → All P (take (i + 1) items)
none_more P items i x below is so_far here =
    subst (All P) (sym (take_more items i x below ∙ ap (λ (e : Definition). take i items ++ e ∷ []) (sym is))) (All-append P (take i items) (x ∷ []) so_far (All-cons P x [] here (All-nil P)))

pub none_of_all : (name : List ℕ) (items ds : List Definition) (i : ℕ) → items ≡ ds → length items ≤ i → All (λ (d : Definition). d.name ≡ name → ⊥) (take i items) → (d : Definition) → Contains ds d → d.name ≡ name → ⊥
none_of_all name items ds i same past none d among named =
    All-contains (λ (d : Definition). d.name ≡ name → ⊥) ds d (subst (All (λ (d : Definition). d.name ≡ name → ⊥)) (take_all i items past ∙ same) none) among named
