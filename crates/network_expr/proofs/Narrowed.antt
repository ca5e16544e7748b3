-- Rows of `&` and `-`, of which each operand makes a language smaller.
use Rattle.std.proofs.Common.{◌≡◌, ◌↔◌, ◌≤◌, Bool, true, false, IsTrue, List, [], ◌∷◌, ◌++◌, All, length, arith, refl, sym, ap, subst, ◌∙◌}
use Rattle.std.specs.List.{Contains}
use Rattle.std.proofs.lemmas.List.Elements.{All-nil, All-cons, All-head, All-tail}
use Rattle.fsm_base.specs.declared.letters.Bound.{Bound}
use Rattle.fsm_base.specs.declared.letters.Sym.{Sym}
use Rattle.word_relations.specs.Relations.{AreSame}
use Rattle.fsa.specs.Automaton.{Automaton, UsesLetter}
use Rattle.fsa.specs.Complete.{Complete}
use Rattle.fsa.specs.Complete as complete
use Rattle.fsa.specs.Language.{Accepts}
use Rattle.lang_algebra.specs.Languages.{IsLang}
use Rattle.lang_algebra.proofs.Made.{IsLang-same}
use Rattle.regex_ast.specs.declared.expr.Atom.{Atom}
use Rattle.regex_ast.specs.declared.expr.Link.{Link, Or, And, Less}
use Rattle.regex_ast.specs.Terms.{Term, term, and, less, no_link, links_of}
use Rattle.expr_kinds.specs.Kinds.{both, kind_of, kind_of_chain, ChainFits}
use Rattle.expr_kinds.specs.declared.form.Kind.{Kind}
use Rattle.expr_kinds.specs.declared.form.Kind.TheVariants.{Language}
use Rattle.expr_meaning.specs.Meaning.{In, InChain, RelatesChain}
use Rattle.expr_meaning.specs.Operators.{IsItself}
use Rattle.network_algebra.specs.Networks.{IsFor, UsesOnly, kind_of_network}
use Rattle.network_algebra.specs.declared.network.Network.{Network}
use Rattle.network_algebra.specs.declared.network.Network.TheVariants.{Words}
use Rattle.network_algebra.proofs.Meanings.{words_for}
use Rattle.network_expr.specs.Built.{IsChoice, IsNarrowing}
use Rattle.network_expr.specs.Parts.{kinds, stands}
use Rattle.network_expr.specs.declared.parts.Part.{Part}
use Rattle.network_sets.proofs.Alike.{SameWords, words_back, words_then}
use Rattle.network_expr.proofs.Meant.{IsChained}
use Rattle.network_expr.proofs.Rows.{chain_words, chain_words_split}

-- a test that fails
pub fails : (P : Type 0) (b : Bool) → IsTrue b ↔ P → b ≡ false → ¬ P
fails P b is other p = let never : true ≡ false = sym (is.1 p) ∙ other in cc

-- a row that is neither of `|` alone nor of the other two has two operands or more
pub two_links : (xs : List (Link Atom)) → 1 ≤ length xs → ¬ All IsChoice xs → ¬ All IsNarrowing xs → 2 ≤ length xs
two_links [] some mixed also = absurd (omega arith)
two_links (Or e ∷ []) some mixed also = absurd (mixed (All-cons IsChoice (Or e) [] tt (All-nil IsChoice)))
two_links (And e ∷ []) some mixed also = absurd (also (All-cons IsNarrowing (And e) [] tt (All-nil IsNarrowing)))
two_links (Less e ∷ []) some mixed also = absurd (also (All-cons IsNarrowing (Less e) [] tt (All-nil IsNarrowing)))
two_links (x ∷ y ∷ xs) some mixed also = omega arith

module _ (parts : List Part) where
  -- what stands before such a row is a language
  pub before_narrowing : (xs : List (Link Atom)) → 1 ≤ length xs → All IsNarrowing xs → (kind : Kind) → ChainFits (kinds parts) kind (links_of xs) → kind ≡ Language
  before_narrowing [] some all kind fits = absurd (omega arith)
  before_narrowing (Or e ∷ xs) some all kind fits = absurd (All-head IsNarrowing (Or e) xs all)
  before_narrowing (And e ∷ xs) some all kind fits = fits.0
  before_narrowing (Less e ∷ xs) some all kind fits = fits.0

  -- and so is the row
  narrowing_kind : (xs : List (Link Atom)) → All IsNarrowing xs → (kind : Kind) → kind ≡ Language → ChainFits (kinds parts) kind (links_of xs) → kind_of_chain (kinds parts) kind (links_of xs) ≡ Language
  narrowing_kind [] all kind is fits = is
  narrowing_kind (Or e ∷ xs) all kind is fits = absurd (All-head IsNarrowing (Or e) xs all)
  narrowing_kind (And e ∷ xs) all kind is (before, language, here, fits) =
      narrowing_kind xs (All-tail IsNarrowing (And e) xs all) (both kind (kind_of (kinds parts) (term e))) (ap (λ k. both k (kind_of (kinds parts) (term e))) is ∙ language) fits
  narrowing_kind (Less e ∷ xs) all kind is (before, language, here, fits) =
      narrowing_kind xs (All-tail IsNarrowing (Less e) xs all) (both kind (kind_of (kinds parts) (term e))) (ap (λ k. both k (kind_of (kinds parts) (term e))) is ∙ language) fits

  -- the rest of such a row fits a language
  pub halves_fit : (xs ys : List (Link Atom)) → All IsNarrowing xs → ChainFits (kinds parts) Language (links_of xs) → ChainFits (kinds parts) (kind_of_chain (kinds parts) Language (links_of xs)) (links_of ys) → ChainFits (kinds parts) Language (links_of ys)
  halves_fit xs ys all front back = subst (λ k. ChainFits (kinds parts) k (links_of ys)) (narrowing_kind xs all Language refl front) back

  module _ (alphabet : List Sym) where
    -- the row relates each of its words to itself
    narrowing_itself : (xs : List (Link Atom)) → All IsNarrowing xs → (P : List (Bound Sym) → Type 0) → AreSame (RelatesChain (stands parts) alphabet P (IsItself P) (links_of xs)) (IsItself (InChain (stands parts) alphabet P (links_of xs)))
    narrowing_itself [] all P = λ u w. (λ h. h, λ h. h)
    narrowing_itself (Or e ∷ xs) all P = absurd (All-head IsNarrowing (Or e) xs all)
    narrowing_itself (And e ∷ xs) all P = narrowing_itself xs (All-tail IsNarrowing (And e) xs all) (λ v. P v × In (stands parts) alphabet (term e) v)
    narrowing_itself (Less e ∷ xs) all P = narrowing_itself xs (All-tail IsNarrowing (Less e) xs all) (λ v. P v × ¬ In (stands parts) alphabet (term e) v)

    -- an automaton of the words that are left
    pub narrowed_meant : (n : Network) (x m : Automaton (Bound Sym)) (lang kept : Complete (Bound Sym)) (xs : List (Link Atom)) → All IsNarrowing xs → n ≡ Words x → ChainFits (kinds parts) (kind_of_network n) (links_of xs)
        → SameWords (complete.Accepts lang) (Accepts x) → SameWords (complete.Accepts kept) (InChain (stands parts) alphabet (complete.Accepts lang) (links_of xs)) → SameWords (Accepts m) (complete.Accepts kept) → IsChained parts alphabet n xs (Words m)
    narrowed_meant n x m lang kept xs all is fits first narrowed last =
        subst (λ (z : Network). IsChained parts alphabet z xs (Words m)) (sym is)
        (subst (λ k. IsFor k (InChain (stands parts) alphabet (Accepts x) (links_of xs)) (RelatesChain (stands parts) alphabet (Accepts x) (IsItself (Accepts x)) (links_of xs)) (Words m))
        (sym (narrowing_kind xs all Language refl (subst (λ (z : Network). ChainFits (kinds parts) (kind_of_network z) (links_of xs)) is fits)))
        (words_for m (InChain (stands parts) alphabet (Accepts x) (links_of xs)) (RelatesChain (stands parts) alphabet (Accepts x) (IsItself (Accepts x)) (links_of xs))
        (words_then (Accepts m) (complete.Accepts kept) (InChain (stands parts) alphabet (Accepts x) (links_of xs)) last
        (words_then (complete.Accepts kept) (InChain (stands parts) alphabet (complete.Accepts lang) (links_of xs)) (InChain (stands parts) alphabet (Accepts x) (links_of xs)) narrowed (chain_words parts alphabet (links_of xs) (complete.Accepts lang) (Accepts x) first)))
        (narrowing_itself xs all (Accepts x))))

    -- one operand, and the row in two parts
    pub and_narrowed : (letters : List (Bound Sym)) (before other r : Complete (Bound Sym)) (e : Term Atom) → before.letters ≡ letters → SameWords (complete.Accepts other) (In (stands parts) alphabet e) → IsLang before.letters (λ w. complete.Accepts before w × complete.Accepts other w) r
        → IsLang letters (InChain (stands parts) alphabet (complete.Accepts before) (and e no_link)) r
    and_narrowed letters before other r e over same made =
        IsLang-same letters (λ w. complete.Accepts before w × complete.Accepts other w) (InChain (stands parts) alphabet (complete.Accepts before) (and e no_link)) r
        (λ w. (λ h. (h.0, (same w).0 h.1), λ h. (h.0, (same w).1 h.1)))
        (subst (λ z. IsLang z (λ w. complete.Accepts before w × complete.Accepts other w) r) over made)

    pub less_narrowed : (letters : List (Bound Sym)) (before other r : Complete (Bound Sym)) (e : Term Atom) → before.letters ≡ letters → SameWords (complete.Accepts other) (In (stands parts) alphabet e) → IsLang before.letters (λ w. complete.Accepts before w × ¬ complete.Accepts other w) r
        → IsLang letters (InChain (stands parts) alphabet (complete.Accepts before) (less e no_link)) r
    less_narrowed letters before other r e over same made =
        IsLang-same letters (λ w. complete.Accepts before w × ¬ complete.Accepts other w) (InChain (stands parts) alphabet (complete.Accepts before) (less e no_link)) r
        (λ w. (λ h. (h.0, λ x. h.1 ((same w).1 x)), λ h. (h.0, λ x. h.1 ((same w).0 x))))
        (subst (λ z. IsLang z (λ w. complete.Accepts before w × ¬ complete.Accepts other w) r) over made)

    pub narrowed_halves : (letters : List (Bound Sym)) (before first r : Complete (Bound Sym)) (xs ys whole : List (Link Atom)) → xs ++ ys ≡ whole → IsLang letters (InChain (stands parts) alphabet (complete.Accepts before) (links_of xs)) first
        → IsLang letters (InChain (stands parts) alphabet (complete.Accepts first) (links_of ys)) r → IsLang letters (InChain (stands parts) alphabet (complete.Accepts before) (links_of whole)) r
    narrowed_halves letters before first r xs ys whole is front back =
        let P = complete.Accepts before in
        let Front = InChain (stands parts) alphabet P (links_of xs) in
        subst (λ (z : List (Link Atom)). IsLang letters (InChain (stands parts) alphabet P (links_of z)) r) is
        (IsLang-same letters (InChain (stands parts) alphabet (complete.Accepts first) (links_of ys)) (InChain (stands parts) alphabet P (links_of (xs ++ ys))) r
        (words_then (InChain (stands parts) alphabet (complete.Accepts first) (links_of ys)) (InChain (stands parts) alphabet Front (links_of ys)) (InChain (stands parts) alphabet P (links_of (xs ++ ys)))
        (chain_words parts alphabet (links_of ys) (complete.Accepts first) Front front.words)
        (words_back (InChain (stands parts) alphabet P (links_of (xs ++ ys))) (InChain (stands parts) alphabet Front (links_of ys)) (chain_words_split parts alphabet xs ys P))) back)

-- the letters of what is left
pub narrowed_only : (letters : List (Bound Sym)) (kept : Complete (Bound Sym)) (m : Automaton (Bound Sym)) → kept.letters ≡ letters → ((x : Bound Sym) → UsesLetter m x → Contains kept.letters x) → UsesOnly letters m
narrowed_only letters kept m over used x h = subst (λ (z : List (Bound Sym)). Contains z x) over (used x h)
