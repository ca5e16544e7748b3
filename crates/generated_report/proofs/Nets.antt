-- The network of a name finds what the project says of it.
use Rattle.std.proofs.Common.{◌≡◌, ℕ, zero, suc, true, false, List, [], ◌∷◌, length, Contains, Some, None, slice_get, sym, ap, subst, ◌∙◌}
use Rattle.std.proofs.lemmas.List.{length-map}
use Rattle.word_relations.proofs.Members.{Contains-nil_cases}
use Rattle.word_relations.specs.Relations.{AreSame}
use Rattle.fsa.specs.Automaton.{Automaton}
use Rattle.fsa.specs.Language.{AcceptsFrom, read, skip, stop}
use Rattle.fsm_base.specs.declared.letters.Pair.{Pair}
use Rattle.fsm_base.specs.declared.letters.Sym.{Sym}
use Rattle.fst_algebra.specs.Relation.{IsRelated}
use Rattle.lookup.specs.Answering.{IsOverAlphabet}
use Rattle.lookup.specs.Nets.{NetRelates, NetView}
use Rattle.lookup_answers.specs.declared.direction.Direction.TheVariants.{Up}
use Rattle.network_algebra.specs.Networks.{IsNetwork, PairsOf}
use Rattle.network_algebra.specs.declared.network.Network.{Network}
use Rattle.network_algebra.specs.declared.network.Network.TheVariants.{Pairs}
use Rattle.project_definitions.specs.Entries.{entry_in, entry_of}
use Rattle.project_definitions.specs.declared.definition.Definition.{Definition}
use Rattle.project_meaning.specs.Meaning.{MeansTo, Word}
use Rattle.project_meaning.specs.Projects.{Defines, Project, definition_in, names_of}
use Rattle.project_sources.specs.Sources.{Said, project_in}
use Rattle.project_store.specs.Building.{IsBuiltAt}
use Rattle.project_store.specs.Loaded.{IsLoadedFrom, LoadedView}
use Rattle.project_store.specs.Networks.{Shows}
use Rattle.project_store.proofs.Lawful.{found_texts}
use Rattle.project_store.proofs.Shown.{shows_name, shows_none}
use Rattle.generated_report.specs.Told.{FindsUpper}

-- an automaton without an edge, whose start isn't final
abbrev empty : Automaton Pair
empty = record { edges = []; finals = false ∷ [] }

never_final : (p : ℕ) → slice_get (false ∷ []) p ≡ Some true → ⊥
never_final zero e = cc
never_final (suc p) e = cc

accepts_nothing : (p : ℕ) (w : List Pair) → AcceptsFrom empty p w → ⊥
accepts_nothing p [] (stop final) = never_final p final
accepts_nothing p w (read {p = at} {q = q} {x = x} among on) = Contains-nil_cases (record { from = at; letter = Some x; to = q }) among
accepts_nothing p w (skip {p = at} {q = q} among on) = Contains-nil_cases (record { from = at; letter = None; to = q }) among

relates_nothing : (u w : List Sym) → IsRelated empty u w → ⊥
relates_nothing u w (pairs, accepts, upper, lower) = accepts_nothing 0 pairs accepts

-- it is over each alphabet
pub empty_over : (symbols : List Sym) (m : Automaton Pair) → m ≡ empty → IsNetwork symbols (Pairs m)
empty_over symbols m is =
    subst (λ (a : Automaton Pair). IsNetwork symbols (Pairs a)) (sym is) (record {
      upper = λ x (pair, (e, among, letter), on). absurd (Contains-nil_cases e among);
      lower = λ x (pair, (e, among, letter), on). absurd (Contains-nil_cases e among);
    })

-- a name that isn't defined relates nothing
means_nothing : (project : Project) (name : List ℕ) → ¬ (Defines project name) → (depth : ℕ) (u w : Word) → MeansTo depth project name u w → ⊥
means_nothing project name none zero u w means = means
means_nothing project name none (suc depth) u w (d, among, named, relates) = none (d, among, named)

module _ (said : Said) (loaded : LoadedView) (from : IsLoadedFrom said loaded) (name : List ℕ) (n : Network) (net : NetView) (same : AreSame (NetRelates net) (PairsOf n)) where
  -- the network of a definition, by its place
  pub finds_defined : (place : ℕ) (d : Definition) → slice_get loaded.definitions place ≡ Some d → d.name ≡ name → IsBuiltAt loaded place n → IsOverAlphabet loaded.alphabet net → FindsUpper loaded.alphabet net (project_in said) name
  finds_defined place d at named built over =
      let shown : Shows (record { alphabet = loaded.alphabet; name = name; net = Some net; glosses = loaded.glosses }) (project_in said) = record {
        formed = from.formed;
        alphabet = sym from.texts;
        net = shows_name said loaded from place d at name named n net built same over;
      } in
      record { alphabet_is = sym from.texts; finds = λ word word_over text. found_texts loaded.alphabet name net (project_in said) loaded.glosses shown Up word word_over text }

  -- the empty one, where there is no definition
  pub finds_nothing : ((d : Definition) → Contains loaded.definitions d → d.name ≡ name → ⊥) → (m : Automaton Pair) → n ≡ Pairs m → m ≡ empty → FindsUpper loaded.alphabet net (project_in said) name
  finds_nothing none m n_is m_is = record {
    alphabet_is = sym from.texts;
    finds = λ word word_over text. (
      λ (texts, (upper, related, is), text_is).
          absurd (relates_nothing upper word (subst (λ (k : Network). PairsOf k upper word) (n_is ∙ ap (λ (a : Automaton Pair). Pairs a) m_is) ((same upper word).0 related))),
      λ (texts, meaning, text_is). absurd (means_nothing (project_in said) name (shows_none said loaded from name none) _ texts _ meaning),
    );
  }

-- a project that is loaded has as many definitions
pub as_many : (said : Said) (loaded : LoadedView) → IsLoadedFrom said loaded → length loaded.definitions ≡ length (project_in said).definitions
as_many said loaded from =
    let names = names_of said.written in
    sym (length-map loaded.definitions entry_of) ∙ ap length from.definitions ∙ length-map said.written (entry_in names (project_in said).alphabet)
    ∙ sym (length-map said.written (definition_in names))
