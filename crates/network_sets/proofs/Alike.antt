-- The operators make the same of the same sets and relations.
use Rattle.std.proofs.Common.{◌≡◌, ◌↔◌, ◌+◌, ℕ, zero, suc, arith, List, [], ◌∷◌, ◌++◌, reverse, subst}
use Rattle.fsm_base.specs.declared.letters.Bound.{Bound}
use Rattle.word_relations.specs.Relations.{AreSame, IsUpper, IsLower, IsComposition}
use Rattle.word_relations.proofs.Pairs.{repetition_same as pairs_repeated}
use Rattle.word_relations.specs.Operations.{IsOneLetter, IsIgnoring}
use Rattle.lang_algebra.proofs.Inserting.{IsIgnoring-more}
use Rattle.regex_ast.specs.declared.expr.Suffix.{Suffix}
use Rattle.regex_ast.specs.declared.expr.Suffix.TheVariants.{Star, Plus, Power, Upper, Lower, Inverse, Reverse}
use Rattle.regex_ast.specs.declared.expr.Prefix.{Prefix}
use Rattle.regex_ast.specs.declared.expr.Prefix.TheVariants.{Not, Contains as Part}
use Rattle.expr_kinds.specs.Kinds.{kind_behind, with_suffixes}
use Rattle.expr_kinds.specs.declared.form.Kind.{Kind}
use Rattle.expr_kinds.specs.declared.form.Kind.TheVariants.{Language}
use Rattle.expr_meaning.specs.Operators.{inner, WithEdge, IsRepetitionOf, AnyNumber, OneOrMore, Just, IsSuffixed, RelatesSuffixed, AreSuffixed, RelateSuffixed, IsPrefixed, ArePrefixed, IsNotOne}
use Rattle.network_algebra.proofs.Counted.{repetition_same}

-- two sets with the same words
abbrev pub SameWords : {X : Type 0} → (List X → Type 0) → (List X → Type 0) → Type 0
SameWords {X} P Q = (w : List X) → P w ↔ Q w

module _ {L : Type 0} where
  pub words_back : (P Q : List (Bound L) → Type 0) → SameWords P Q → SameWords Q P
  words_back P Q f w = ((f w).1, (f w).0)

  pub words_then : (P Q R : List (Bound L) → Type 0) → SameWords P Q → SameWords Q R → SameWords P R
  words_then P Q R f g w = (λ p. (g w).0 ((f w).0 p), λ r. (f w).1 ((g w).1 r))

  repeated_same : (C : ℕ → Type 0) (P Q : List (Bound L) → Type 0) → SameWords P Q → SameWords (IsRepetitionOf C P) (IsRepetitionOf C Q)
  repeated_same C P Q f w = (repetition_same C P Q (λ v. (f v).0) w, repetition_same C Q P (λ v. (f v).1) w)

  edged_same : (P Q : List L → Type 0) → ((u : List L) → P u ↔ Q u) → SameWords (WithEdge P) (WithEdge Q)
  edged_same P Q f w = (λ (u, is, p). (u, is, (f u).0 p), λ (u, is, q). (u, is, (f u).1 q))

  -- one suffix, and several
  module _ (P Q : List (Bound L) → Type 0) (R S : List L → List L → Type 0) (g : AreSame R S) where
    pub suffix_words : (kind : Kind) (suffix : Suffix) → (kind ≡ Language → SameWords P Q) → kind_behind kind suffix ≡ Language → SameWords (IsSuffixed suffix P R) (IsSuffixed suffix Q S)
    suffix_words kind Star f is = repeated_same AnyNumber P Q (f is)
    suffix_words kind Plus f is = repeated_same OneOrMore P Q (f is)
    suffix_words kind (Power n) f is = repeated_same (Just n) P Q (f is)
    suffix_words kind Upper f is = edged_same (IsUpper R) (IsUpper S) (λ u. (λ (w, r). (w, (g u w).0 r), λ (w, s). (w, (g u w).1 s)))
    suffix_words kind Lower f is = edged_same (IsLower R) (IsLower S) (λ w. (λ (u, r). (u, (g u w).0 r), λ (u, s). (u, (g u w).1 s)))
    suffix_words kind Inverse f is = f is
    suffix_words kind Reverse f is = λ w. f is (reverse w)

    pub suffix_pairs : (suffix : Suffix) → AreSame (RelatesSuffixed suffix R) (RelatesSuffixed suffix S)
    suffix_pairs Star = pairs_repeated AnyNumber R S g
    suffix_pairs Plus = pairs_repeated OneOrMore R S g
    suffix_pairs (Power n) = pairs_repeated (Just n) R S g
    suffix_pairs Upper = λ u w. (λ ((v, r), same). ((v, (g u v).0 r), same), λ ((v, s), same). ((v, (g u v).1 s), same))
    suffix_pairs Lower = λ u w. (λ ((v, r), same). ((v, (g v u).0 r), same), λ ((v, s), same). ((v, (g v u).1 s), same))
    suffix_pairs Inverse = λ u w. g w u
    suffix_pairs Reverse = λ u w. g (reverse u) (reverse w)

  pub suffixes_words : (suffixes : List Suffix) (P Q : List (Bound L) → Type 0) (R S : List L → List L → Type 0) → AreSame R S → (kind : Kind) → (kind ≡ Language → SameWords P Q) → with_suffixes kind suffixes ≡ Language → SameWords (AreSuffixed suffixes P R) (AreSuffixed suffixes Q S)
  suffixes_words [] P Q R S g kind f is = f is
  suffixes_words (suffix ∷ suffixes) P Q R S g kind f is =
      suffixes_words suffixes (IsSuffixed suffix P R) (IsSuffixed suffix Q S) (RelatesSuffixed suffix R) (RelatesSuffixed suffix S) (suffix_pairs P Q R S g suffix) (kind_behind kind suffix) (suffix_words P Q R S g kind suffix f) is

  pub suffixes_pairs : (suffixes : List Suffix) (P Q : List (Bound L) → Type 0) (R S : List L → List L → Type 0) → AreSame R S → AreSame (RelateSuffixed suffixes R) (RelateSuffixed suffixes S)
  suffixes_pairs [] P Q R S g = g
  suffixes_pairs (suffix ∷ suffixes) P Q R S g = suffixes_pairs suffixes P Q (RelatesSuffixed suffix R) (RelatesSuffixed suffix S) (suffix_pairs P Q R S g suffix)

  -- suffixes in two parts
  pub suffixes_split : (xs ys : List Suffix) (P : List (Bound L) → Type 0) (R : List L → List L → Type 0) (w : List (Bound L)) → AreSuffixed (xs ++ ys) P R w ↔ AreSuffixed ys (AreSuffixed xs P R) (RelateSuffixed xs R) w
  suffixes_split [] ys P R w = (λ h. h, λ h. h)
  suffixes_split (x ∷ xs) ys P R w = suffixes_split xs ys (IsSuffixed x P R) (RelatesSuffixed x R) w

  pub relates_split : (xs ys : List Suffix) (R : List L → List L → Type 0) → AreSame (RelateSuffixed (xs ++ ys) R) (RelateSuffixed ys (RelateSuffixed xs R))
  relates_split [] ys R = λ u w. (λ h. h, λ h. h)
  relates_split (x ∷ xs) ys R = relates_split xs ys (RelatesSuffixed x R)

  -- prefixes
  pub prefix_same : (alphabet : List L) (prefix : Prefix) (P Q : List (Bound L) → Type 0) → SameWords P Q → SameWords (IsPrefixed alphabet prefix P) (IsPrefixed alphabet prefix Q)
  prefix_same alphabet Not P Q f w = (λ h. (h.0, λ q. h.1 ((f w).1 q)), λ h. (h.0, λ p. h.1 ((f w).0 p)))
  prefix_same alphabet Part P Q f w = (λ (over, (x, y, z, is, p)). (over, (x, y, z, is, (f y).0 p)), λ (over, (x, y, z, is, q)). (over, (x, y, z, is, (f y).1 q)))

  pub prefixes_same : (alphabet : List L) (prefixes : List Prefix) (P Q : List (Bound L) → Type 0) → SameWords P Q → SameWords (ArePrefixed alphabet prefixes P) (ArePrefixed alphabet prefixes Q)
  prefixes_same alphabet [] P Q f = f
  prefixes_same alphabet (x ∷ xs) P Q f = prefix_same alphabet x (ArePrefixed alphabet xs P) (ArePrefixed alphabet xs Q) (prefixes_same alphabet xs P Q f)

  pub not_one_same : (alphabet : List L) (n : ℕ) (P Q : List (Bound L) → Type 0) → SameWords P Q → SameWords (IsNotOne alphabet n P) (IsNotOne alphabet n Q)
  not_one_same alphabet zero P Q f = f
  not_one_same alphabet (suc n) P Q f =
      let rest = not_one_same alphabet n P Q f in
      λ w. (λ h. (h.0, λ q. h.1 ((rest w).1 q)), λ h. (h.0, λ p. h.1 ((rest w).0 p)))

  pub ignoring_same : (P Q R S : List (Bound L) → Type 0) → SameWords P Q → SameWords R S → SameWords (IsIgnoring P R) (IsIgnoring Q S)
  ignoring_same P Q R S f g w = (IsIgnoring-more P Q R S (λ v. (f v).0) (λ v. (g v).0) w, IsIgnoring-more Q P S R (λ v. (f v).1) (λ v. (g v).1) w)

  pub composition_same : (R S T U : List L → List L → Type 0) → AreSame R S → AreSame T U → AreSame (IsComposition R T) (IsComposition S U)
  composition_same R S T U f g u w = (λ (v, r, t). (v, (f u v).0 r, (g v w).0 t), λ (v, s, x). (v, (f u v).1 s, (g v w).1 x))

-- one backslash more
pub not_one_more : {L : Type 0} (alphabet : List L) (n : ℕ) (P Q R : List (Bound L) → Type 0) → SameWords Q (IsNotOne alphabet n P) → ((w : List (Bound L)) → R w ↔ (IsOneLetter (inner alphabet) w × ¬ Q w)) → SameWords R (IsNotOne alphabet (n + 1) P)
not_one_more alphabet n P Q R before step =
    subst (λ k. SameWords R (IsNotOne alphabet k P)) (one_more n)
    (λ w. (λ h. let r = (step w).0 h in (r.0, λ x. r.1 ((before w).1 x)), λ h. (step w).1 (h.0, λ q. h.1 ((before w).0 q))))
  where
    one_more : (n : ℕ) → suc n ≡ n + 1
    one_more n = omega arith

pub not_one_all : {L : Type 0} (alphabet : List L) (n m : ℕ) (P Q : List (Bound L) → Type 0) → n ≡ m → SameWords Q (IsNotOne alphabet n P) → SameWords Q (IsNotOne alphabet m P)
not_one_all alphabet n m P Q is h = subst (λ k. SameWords Q (IsNotOne alphabet k P)) is h
