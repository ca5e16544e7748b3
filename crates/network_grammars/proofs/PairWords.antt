-- Automata of expressions over pairs, by their forms.
use Rattle.std.proofs.Common.{◌≡◌, ◌⊎◌, ℕ, true, false, List, [], ◌∷◌, Option, None, Some, MatchOption, refl, ap, ◌∙◌, inl, inr}
use Rattle.std.specs.List.{Contains}
use Rattle.fsm_base.specs.declared.letters.Bound.{Bound}
use Rattle.fsm_base.specs.declared.letters.Sym.{Sym}
use Rattle.word_relations.specs.Relations.{AreSame}
use Rattle.word_relations.proofs.Members.{Contains-nil_cases}
use Rattle.fsa.specs.Automaton.{Automaton, UsesLetter}
use Rattle.fsa.specs.Language.{Accepts}
use Rattle.regex_ast.specs.Terms.{Term, Terms, Links, empty, any, edge, atom, group, maybe, not_one, suffixed, prefixed, ignore, concat, chain, no_term, then_term, no_link, or, and, less}
use Rattle.regex_ast.specs.declared.expr.Atom.{Atom}
use Rattle.regex_ast.specs.declared.expr.Prefix.{Prefix}
use Rattle.regex_ast.specs.declared.expr.Suffix.{Suffix}
use Rattle.regex_ast.specs.declared.expr.Suffix.TheVariants.{Star, Plus, Power, Upper, Lower, Inverse, Reverse}
use Rattle.expr_kinds.specs.Kinds.{Leaves, both, kind_of, kind_of_each, kind_of_chain, with_suffixes}
use Rattle.expr_kinds.specs.declared.form.Kind.TheVariants.{Language}
use Rattle.expr_meaning.specs.Leaves.{AreSound}
use Rattle.expr_meaning.specs.Meaning.{In, Relates}
use Rattle.expr_meaning.specs.Operators.{AreSuffixed, ArePrefixed, IsEmpty, IsItself, IsNotOne, inner}
use Rattle.expr_meaning.proofs.Languages.{language_itself}
use Rattle.network_sets.proofs.Alike.{not_one_same, prefixes_same, suffixes_words, words_then}
use Rattle.network_algebra.specs.Networks.{UsesOnly, all_letters}
use Rattle.project_meaning.specs.Trees.{Part, pair, called}
use Rattle.grammar_pairs.specs.Fitting.{IsOneOf, IsTwice}
use Rattle.grammar_pairs.specs.Plain.{IsPairForm, ArePairForms, LinksArePairForms}
use Rattle.grammar_pairs.specs.Tables.{under}
use Rattle.network_grammars.specs.PairMeaning.{stands}
use Rattle.network_grammars.specs.declared.scope.Scope.{Scope}
use Rattle.network_grammars.proofs.PairRows.{HasWords}

-- all leaves are languages
abbrev languages : Leaves (Part Atom)
languages = record { kind = λ (a : Part Atom). Language; same = λ (a b : Part Atom). false }

-- a language stays one behind suffixes
pub language_suffixes : (suffixes : List Suffix) → with_suffixes Language suffixes ≡ Language
language_suffixes [] = refl
language_suffixes (Star ∷ suffixes) = language_suffixes suffixes
language_suffixes (Plus ∷ suffixes) = language_suffixes suffixes
language_suffixes (Power n ∷ suffixes) = language_suffixes suffixes
language_suffixes (Upper ∷ suffixes) = language_suffixes suffixes
language_suffixes (Lower ∷ suffixes) = language_suffixes suffixes
language_suffixes (Inverse ∷ suffixes) = language_suffixes suffixes
language_suffixes (Reverse ∷ suffixes) = language_suffixes suffixes

-- and so are expressions over pairs
mutual
  language_form : (e : Term (Part Atom)) → IsPairForm e → kind_of languages e ≡ Language
  language_form empty form = refl
  language_form any form = refl
  language_form edge form = refl
  language_form (atom a) form = refl
  language_form (group e) form = language_form e form
  language_form (maybe e) form = language_form e form
  language_form (not_one n e) form = language_form e form
  language_form (suffixed e suffixes) form = ap (λ k. with_suffixes k suffixes) (language_form e form) ∙ language_suffixes suffixes
  language_form (prefixed prefixes e) form = language_form e form
  language_form (ignore es) form = language_each es form
  language_form (concat es) form = language_each es form
  language_form (chain e links) form = ap (λ k. kind_of_chain languages k links) (language_form e form.0) ∙ language_chain links form.1
  language_form _ form = absurd form

  language_each : (es : Terms (Part Atom)) → ArePairForms es → kind_of_each languages es ≡ Language
  language_each no_term form = refl
  language_each (then_term e es) form = ap (λ k. both k (kind_of_each languages es)) (language_form e form.0) ∙ language_each es form.1

  language_chain : (links : Links (Part Atom)) → LinksArePairForms links → kind_of_chain languages Language links ≡ Language
  language_chain no_link form = refl
  language_chain (or e links) form = ap (λ k. kind_of_chain languages k links) (language_form e form.0) ∙ language_chain links form.1
  language_chain (and e links) form = ap (λ k. kind_of_chain languages k links) (language_form e form.0) ∙ language_chain links form.1
  language_chain (less e links) form = ap (λ k. kind_of_chain languages k links) (language_form e form.0) ∙ language_chain links form.1

module _ (scope : Scope) where
  leaf_itself : (c : Part Atom) (u w : List Sym) → stands scope c u w → u ≡ w
  leaf_itself (pair p) u w h = h.1
  leaf_itself (called name) u w h = by (under name scope.definitions) h
    where
      by : (o : Option (Automaton (Bound Sym))) → MatchOption o (IsOneOf scope.pairs (IsTwice scope.sets name) u × (u ≡ w)) (λ m. Accepts m (inner u) × (u ≡ w)) → u ≡ w
      by None h = h.1
      by (Some m) h = h.1

  sound : AreSound languages (stands scope)
  sound = record { itself = λ c _ u w h. leaf_itself c u w h; single = λ a b same u w first second. let no : false ≡ true = same in absurd (cc) }

  abbrev N : List Sym
  N = scope.numbers.items

  module _ (e : Term (Part Atom)) (words m : Automaton (Bound Sym)) (first : HasWords words (In (stands scope) N e)) where
    pub maybe_words : HasWords m (λ w. IsEmpty w ⊎ Accepts words w) → HasWords m (In (stands scope) N (maybe e))
    maybe_words h w = (
      λ a. elim ((h w).0 a) as (λ _. IsEmpty w ⊎ In (stands scope) N e w) [ inl none ↦ inl none | inr x ↦ inr ((first w).0 x) ],
      λ b. (h w).1 (elim b as (λ _. IsEmpty w ⊎ Accepts words w) [ inl none ↦ inl none | inr x ↦ inr ((first w).1 x) ]),
    )

    pub not_one_words : (n : ℕ) → HasWords m (IsNotOne N n (Accepts words)) → HasWords m (In (stands scope) N (not_one n e))
    not_one_words n h = words_then (Accepts m) (IsNotOne N n (Accepts words)) (IsNotOne N n (In (stands scope) N e)) h (not_one_same N n (Accepts words) (In (stands scope) N e) first)

    pub prefixed_words : (prefixes : List Prefix) → HasWords m (ArePrefixed N prefixes (Accepts words)) → HasWords m (In (stands scope) N (prefixed prefixes e))
    prefixed_words prefixes h =
        words_then (Accepts m) (ArePrefixed N prefixes (Accepts words)) (ArePrefixed N prefixes (In (stands scope) N e)) h (prefixes_same N prefixes (Accepts words) (In (stands scope) N e) first)

    pub suffixed_words : (suffixes : List Suffix) → IsPairForm e → HasWords m (AreSuffixed suffixes (Accepts words) (IsItself (Accepts words))) → HasWords m (In (stands scope) N (suffixed e suffixes))
    suffixed_words suffixes form h =
        words_then (Accepts m) (AreSuffixed suffixes (Accepts words) (IsItself (Accepts words))) (AreSuffixed suffixes (In (stands scope) N e) (Relates (stands scope) N e)) h
        (suffixes_words suffixes (Accepts words) (In (stands scope) N e) (IsItself (Accepts words)) (Relates (stands scope) N e) pairs Language (λ _. first) (language_suffixes suffixes))
      where
        whole : AreSame (Relates (stands scope) N e) (IsItself (In (stands scope) N e))
        whole = language_itself languages (stands scope) N sound e (language_form e form)

        pairs : AreSame (IsItself (Accepts words)) (Relates (stands scope) N e)
        pairs u w = (
          λ h. (whole u w).1 ((first (inner u)).0 h.0, h.1),
          λ h. let r = (whole u w).0 h in ((first (inner u)).1 r.0, r.1),
        )

-- the empty word, or a word of a language
module _ (empty words either m : Automaton (Bound Sym)) where
  pub perhaps_only : ((x : Bound Sym) → UsesLetter empty x → Contains [] x) → ((x : Bound Sym) → UsesLetter either x → UsesLetter empty x ⊎ UsesLetter words x) → ((x : Bound Sym) → UsesLetter m x → UsesLetter either x)
      → (symbols : List Sym) → UsesOnly (all_letters symbols) words → UsesOnly (all_letters symbols) m
  perhaps_only none two smaller symbols within x used =
      elim (two x (smaller x used)) as (λ _. Contains (all_letters symbols) x) [ inl e ↦ absurd (Contains-nil_cases x (none x e)) | inr h ↦ within x h ]

  pub perhaps_words : HasWords empty IsEmpty → HasWords either (λ w. Accepts empty w ⊎ Accepts words w) → HasWords m (Accepts either) → HasWords m (λ w. IsEmpty w ⊎ Accepts words w)
  perhaps_words none two smaller w = (
    λ a. elim ((two w).0 ((smaller w).0 a)) as (λ _. IsEmpty w ⊎ Accepts words w) [ inl e ↦ inl ((none w).0 e) | inr h ↦ inr h ],
    λ b. (smaller w).1 ((two w).1 (elim b as (λ _. Accepts empty w ⊎ Accepts words w) [ inl e ↦ inl ((none w).1 e) | inr h ↦ inr h ])),
  )
