-- What networks are that are the same of the same, and with suffixes.
use Rattle.std.proofs.Common.{◌≡◌, List, [], ◌∷◌, ◌++◌, refl, ap, subst, ◌∙◌}
use Rattle.fsm_base.specs.declared.letters.Bound.{Bound}
use Rattle.fsm_base.specs.declared.letters.Sym.{Sym}
use Rattle.word_relations.specs.Relations.{AreSame}
use Rattle.word_relations.proofs.Pairs.{same_trans, same_back}
use Rattle.regex_ast.specs.declared.expr.Suffix.{Suffix}
use Rattle.expr_kinds.specs.Kinds.{kind_behind, with_suffixes}
use Rattle.expr_kinds.specs.declared.form.Kind.{Kind}
use Rattle.expr_kinds.specs.declared.form.Kind.TheVariants.{Language}
use Rattle.expr_meaning.specs.Operators.{AreSuffixed, RelateSuffixed}
use Rattle.network_algebra.specs.Networks.{IsFor, WordsOf, PairsOf, kind_of_network}
use Rattle.network_algebra.specs.declared.network.Network.{Network}
use Rattle.network_sets.proofs.Alike.{SameWords, suffixes_words, suffixes_pairs, suffixes_split, relates_split}

-- the same of another set and relation
pub for_same : (k j : Kind) (P Q : List (Bound Sym) → Type 0) (R S : List Sym → List Sym → Type 0) (n : Network) → k ≡ j → (j ≡ Language → SameWords P Q) → AreSame R S → IsFor k P R n → IsFor j Q S n
for_same k j P Q R S n is f g h = record {
  kind_is = h.kind_is ∙ is;
  words = λ language w. let old = h.words (is ∙ language) w in let new = f language w in (λ x. new.0 (old.0 x), λ y. old.1 (new.1 y));
  pairs = same_trans (PairsOf n) R S h.pairs g;
}

-- a network is what it is
pub for_itself : (n : Network) → IsFor (kind_of_network n) (WordsOf n) (PairsOf n) n
for_itself n = record { kind_is = refl; words = λ language w. (λ h. h, λ h. h); pairs = λ u w. (λ h. h, λ h. h) }

-- suffixes
suffix_kinds : (xs ys : List Suffix) (k : Kind) → with_suffixes (with_suffixes k xs) ys ≡ with_suffixes k (xs ++ ys)
suffix_kinds [] ys k = refl
suffix_kinds (x ∷ xs) ys k = suffix_kinds xs ys (kind_behind k x)

pub suffixed_for : (K : Kind) (P : List (Bound Sym) → Type 0) (R : List Sym → List Sym → Type 0) (n r : Network) (suffixes : List Suffix) → IsFor K P R n
    → IsFor (with_suffixes (kind_of_network n) suffixes) (AreSuffixed suffixes (WordsOf n) (PairsOf n)) (RelateSuffixed suffixes (PairsOf n)) r → IsFor (with_suffixes K suffixes) (AreSuffixed suffixes P R) (RelateSuffixed suffixes R) r
suffixed_for K P R n r suffixes f h =
    for_same (with_suffixes (kind_of_network n) suffixes) (with_suffixes K suffixes) (AreSuffixed suffixes (WordsOf n) (PairsOf n)) (AreSuffixed suffixes P R) (RelateSuffixed suffixes (PairsOf n)) (RelateSuffixed suffixes R) r
    (ap (λ k. with_suffixes k suffixes) f.kind_is) (suffixes_words suffixes (WordsOf n) P (PairsOf n) R f.pairs K f.words) (suffixes_pairs suffixes (WordsOf n) P (PairsOf n) R f.pairs) h

pub suffixes_halves : (n inner r : Network) (xs ys whole : List Suffix) → xs ++ ys ≡ whole → IsFor (with_suffixes (kind_of_network n) xs) (AreSuffixed xs (WordsOf n) (PairsOf n)) (RelateSuffixed xs (PairsOf n)) inner
    → IsFor (with_suffixes (kind_of_network inner) ys) (AreSuffixed ys (WordsOf inner) (PairsOf inner)) (RelateSuffixed ys (PairsOf inner)) r
    → IsFor (with_suffixes (kind_of_network n) whole) (AreSuffixed whole (WordsOf n) (PairsOf n)) (RelateSuffixed whole (PairsOf n)) r
suffixes_halves n inner r xs ys whole is f g =
    let K = with_suffixes (kind_of_network n) xs in
    let P = AreSuffixed xs (WordsOf n) (PairsOf n) in
    let R = RelateSuffixed xs (PairsOf n) in
    subst (λ (z : List Suffix). IsFor (with_suffixes (kind_of_network n) z) (AreSuffixed z (WordsOf n) (PairsOf n)) (RelateSuffixed z (PairsOf n)) r) is
    (for_same (with_suffixes K ys) (with_suffixes (kind_of_network n) (xs ++ ys)) (AreSuffixed ys P R) (AreSuffixed (xs ++ ys) (WordsOf n) (PairsOf n)) (RelateSuffixed ys R) (RelateSuffixed (xs ++ ys) (PairsOf n)) r (suffix_kinds xs ys (kind_of_network n))
    (λ language w. let s = suffixes_split xs ys (WordsOf n) (PairsOf n) w in (s.1, s.0)) (same_back (RelateSuffixed (xs ++ ys) (PairsOf n)) (RelateSuffixed ys R) (relates_split xs ys (PairsOf n))) (suffixed_for K P R inner r ys f g))
