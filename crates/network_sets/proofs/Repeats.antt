-- Suffixes that make nothing new behind another.
use Rattle.std.proofs.Common.{◌≡◌, ◌↔◌, ◌<◌, ◌+◌, ℕ, zero, suc, List, [], ◌∷◌, ◌++◌, All, None, Some, length, map, take, get_or, refl, sym, ap, subst, ◌∙◌, arith, append-nil}
use Rattle.std.proofs.lemmas.List.{take_more}
use Rattle.std.proofs.lemmas.List.Elements.{All-nil, All-head, All-tail}
use Rattle.fsm_base.specs.declared.letters.Bound.{Bound}
use Rattle.word_relations.specs.Words.{joined}
use Rattle.word_relations.specs.Relations.{AreSame, IsRepetitionOfPairs, IsUpper, IsLower}
use Rattle.word_relations.proofs.Pairs.{repetition_one, repetition_append, repetition_single, same_trans, same_back}
use Rattle.regex_ast.specs.declared.expr.Suffix.{Suffix}
use Rattle.regex_ast.specs.declared.expr.Suffix.TheVariants.{Star, Plus, Power, Upper, Lower}
use Rattle.expr_kinds.specs.Kinds.{kind_behind, with_suffixes}
use Rattle.expr_kinds.specs.declared.form.Kind.{Kind}
use Rattle.expr_kinds.specs.declared.form.Kind.TheVariants.{Language}
use Rattle.expr_meaning.specs.Operators.{WithEdge, IsRepetitionOf, AnyNumber, OneOrMore, Just, IsSuffixed, RelatesSuffixed, AreSuffixed, RelateSuffixed}
use Rattle.network_algebra.specs.Networks.{IsFor, WordsOf, PairsOf, kind_of_network}
use Rattle.network_algebra.specs.declared.network.Network.{Network}
use Rattle.network_algebra.proofs.Counted.{once, one_time, together}
use Rattle.network_sets.specs.Suffixes.{MakesNothingNew, IsBehind, IsSettled}
use Rattle.network_sets.proofs.Alike.{SameWords, suffix_words, suffix_pairs, words_then, words_back}
use Rattle.network_sets.proofs.Suffixed.{for_same, suffixes_halves}

-- repetitions of repetitions, where every number but none counts
module _ (C D : ℕ → Type 0) (more : (n : ℕ) → C (suc n)) (some : (n : ℕ) → D (suc n)) (none : C 0 → D 0) where
  sums : (m n : ℕ) → D m → D n → D (m + n)
  sums zero n c d = let e : n ≡ 0 + n = omega arith in subst D e d
  sums (suc m) n c d = let e : suc (m + n) ≡ suc m + n = omega arith in subst D e (some (m + n))

  module _ {L : Type 0} (P : List L → Type 0) where
    flat : (words : List (List L)) → C (length words) → All (IsRepetitionOf D P) words → IsRepetitionOf D P (joined words)
    flat [] c all = ([], none c, All-nil P, refl)
    flat (x ∷ []) c all = subst (IsRepetitionOf D P) (sym (append-nil x)) (All-head (IsRepetitionOf D P) x [] all)
    flat (x ∷ y ∷ words) c all =
        together P D D D sums (joined (x ∷ y ∷ words))
        (x, joined (y ∷ words), refl, All-head (IsRepetitionOf D P) x (y ∷ words) all, flat (y ∷ words) (more (length words)) (All-tail (IsRepetitionOf D P) x (y ∷ words) all))

    pub repeated_again : (w : List L) → IsRepetitionOf C (IsRepetitionOf D P) w ↔ IsRepetitionOf D P w
    repeated_again w = (
      λ (words, c, all, is). subst (IsRepetitionOf D P) (sym is) (flat words c all),
      once (IsRepetitionOf D P) C (more 0) w,
    )

  module _ {L : Type 0} (R : List L → List L → Type 0) where
    abbrev Again : List L × List L → Type 0
    Again p = IsRepetitionOfPairs D R p.0 p.1

    flat_pairs : (pairs : List (List L × List L)) → C (length pairs) → All Again pairs → IsRepetitionOfPairs D R (joined (map (λ p. p.0) pairs)) (joined (map (λ p. p.1) pairs))
    flat_pairs [] c all = ([], none c, All-nil (λ (p : List L × List L). R p.0 p.1), refl, refl)
    flat_pairs (x ∷ []) c all =
        subst (λ (u : List L). IsRepetitionOfPairs D R u (x.1 ++ [])) (sym (append-nil x.0)) (subst (λ (w : List L). IsRepetitionOfPairs D R x.0 w) (sym (append-nil x.1)) (All-head Again x [] all))
    flat_pairs (x ∷ y ∷ pairs) c all =
        repetition_append R D D D sums (joined (map (λ p. p.0) (x ∷ y ∷ pairs))) (joined (map (λ p. p.1) (x ∷ y ∷ pairs)))
        (x.0, joined (map (λ p. p.0) (y ∷ pairs)), x.1, joined (map (λ p. p.1) (y ∷ pairs)), refl, refl, All-head Again x (y ∷ pairs) all, flat_pairs (y ∷ pairs) (more (length pairs)) (All-tail Again x (y ∷ pairs) all))

    pub pairs_again : AreSame (IsRepetitionOfPairs C (IsRepetitionOfPairs D R)) (IsRepetitionOfPairs D R)
    pairs_again u w = (
      λ (pairs, c, all, e, d). subst (λ (x : List L). IsRepetitionOfPairs D R x w) (sym e) (subst (λ (y : List L). IsRepetitionOfPairs D R (joined (map (λ p. p.0) pairs)) y) (sym d) (flat_pairs pairs c all)),
      repetition_one (IsRepetitionOfPairs D R) C (more 0) u w,
    )

any_some : (n : ℕ) → AnyNumber (suc n)
any_some n = tt

more_some : (n : ℕ) → OneOrMore (suc n)
more_some n = omega arith

-- a power of one
power_words : {L : Type 0} (P : List L → Type 0) (n : ℕ) → n ≡ 1 → (w : List L) → IsRepetitionOf (Just n) P w ↔ P w
power_words P n one w = subst (λ k. IsRepetitionOf (Just k) P w ↔ P w) (sym one) (let h = one_time P w in (h.1, h.0))

power_pairs : {L : Type 0} (R : List L → List L → Type 0) (n : ℕ) → n ≡ 1 → AreSame (IsRepetitionOfPairs (Just n) R) R
power_pairs R n one = subst (λ k. AreSame (IsRepetitionOfPairs (Just k) R) R) (sym one) (repetition_single R)

module _ {L : Type 0} (P : List (Bound L) → Type 0) (R : List L → List L → Type 0) where
  -- the sides of a relation that is one of its sides
  of_upper : SameWords (WithEdge (IsUpper (RelatesSuffixed Upper R))) (WithEdge (IsUpper R))
  of_upper w = (λ (u, is, (v, (held, same))). (u, is, held), λ (u, is, held). (u, is, (u, (held, refl))))

  below_upper : SameWords (WithEdge (IsLower (RelatesSuffixed Upper R))) (WithEdge (IsUpper R))
  below_upper w = (λ (u, is, (v, (held, same))). (u, is, subst (IsUpper R) same held), λ (u, is, held). (u, is, (u, (held, refl))))

  above_lower : SameWords (WithEdge (IsUpper (RelatesSuffixed Lower R))) (WithEdge (IsLower R))
  above_lower w = (λ (u, is, (v, (held, same))). (u, is, held), λ (u, is, held). (u, is, (u, (held, refl))))

  of_lower : SameWords (WithEdge (IsLower (RelatesSuffixed Lower R))) (WithEdge (IsLower R))
  of_lower w = (λ (u, is, (v, (held, same))). (u, is, subst (IsLower R) same held), λ (u, is, held). (u, is, (u, (held, refl))))

  words_again : (last suffix : Suffix) → MakesNothingNew (Some last) suffix → SameWords (IsSuffixed suffix (IsSuffixed last P R) (RelatesSuffixed last R)) (IsSuffixed last P R)
  words_again last (Power n) one = power_words (IsSuffixed last P R) n one
  words_again Star Star nothing = repeated_again AnyNumber AnyNumber any_some any_some (λ c. c) P
  words_again Star Plus nothing = repeated_again OneOrMore AnyNumber more_some any_some (λ c. tt) P
  words_again Plus Plus nothing = repeated_again OneOrMore OneOrMore more_some more_some (λ c. c) P
  words_again Upper Upper nothing = of_upper
  words_again Upper Lower nothing = below_upper
  words_again Lower Upper nothing = above_lower
  words_again Lower Lower nothing = of_lower
  words_again last suffix nothing = absurd nothing

  relates_again : (last suffix : Suffix) → MakesNothingNew (Some last) suffix → AreSame (RelatesSuffixed suffix (RelatesSuffixed last R)) (RelatesSuffixed last R)
  relates_again last (Power n) one = power_pairs (RelatesSuffixed last R) n one
  relates_again Star Star nothing = pairs_again AnyNumber AnyNumber any_some any_some (λ c. c) R
  relates_again Star Plus nothing = pairs_again OneOrMore AnyNumber more_some any_some (λ c. tt) R
  relates_again Plus Plus nothing = pairs_again OneOrMore OneOrMore more_some more_some (λ c. c) R
  relates_again Upper Upper nothing = λ u w. (λ ((v, (held, same)), is). (held, is), λ (held, is). ((u, (held, refl)), is))
  relates_again Upper Lower nothing = λ u w. (λ ((v, (held, same)), is). (subst (IsUpper R) same held, is), λ (held, is). ((u, (held, refl)), is))
  relates_again Lower Upper nothing = λ u w. (λ ((v, (held, same)), is). (held, is), λ (held, is). ((u, (held, refl)), is))
  relates_again Lower Lower nothing = λ u w. (λ ((v, (held, same)), is). (subst (IsLower R) same held, is), λ (held, is). ((u, (held, refl)), is))
  relates_again last suffix nothing = absurd nothing

kind_again : (kind : Kind) (last suffix : Suffix) → MakesNothingNew (Some last) suffix → kind_behind (kind_behind kind last) suffix ≡ kind_behind kind last
kind_again kind last (Power n) one = refl
kind_again kind Star Star nothing = refl
kind_again kind Star Plus nothing = refl
kind_again kind Plus Plus nothing = refl
kind_again kind Upper Upper nothing = refl
kind_again kind Upper Lower nothing = refl
kind_again kind Lower Upper nothing = refl
kind_again kind Lower Lower nothing = refl
kind_again kind last suffix nothing = absurd nothing

-- before the first suffix
pub none_settled : (n : Network) → IsSettled None n
none_settled n (Power k) one = record {
  kind_is = refl;
  words = λ is w. let h = power_words (WordsOf n) k one w in (h.1, h.0);
  pairs = same_back (IsRepetitionOfPairs (Just k) (PairsOf n)) (PairsOf n) (power_pairs (PairsOf n) k one);
}
none_settled n suffix nothing = absurd nothing

pub settled_behind : (n r : Network) (last : Suffix) → IsBehind n last r → IsSettled (Some last) r
settled_behind n r last behind suffix nothing =
    let K = kind_behind (kind_of_network n) last in
    let P = IsSuffixed last (WordsOf n) (PairsOf n) in
    let R = RelatesSuffixed last (PairsOf n) in
    let Q = IsSuffixed suffix (WordsOf r) (PairsOf r) in
    let S = RelatesSuffixed suffix (PairsOf r) in
    for_same K (kind_behind (kind_of_network r) suffix) P Q R S r
    (sym (kind_again (kind_of_network n) last suffix nothing) ∙ ap (λ k. kind_behind k suffix) (sym behind.kind_is))
    (λ language.
    let kind : kind_behind K suffix ≡ Language = ap (λ k. kind_behind k suffix) (sym behind.kind_is) ∙ language in
    words_back Q P
    (words_then Q (IsSuffixed suffix P R) P
    (suffix_words (WordsOf r) P (PairsOf r) R behind.pairs K suffix behind.words kind)
    (words_again (WordsOf n) (PairsOf n) last suffix nothing)))
    (same_back S R
    (same_trans S (RelatesSuffixed suffix R) R
    (suffix_pairs (WordsOf r) P (PairsOf r) R behind.pairs suffix)
    (relates_again (WordsOf n) (PairsOf n) last suffix nothing)))
    behind

-- what suffixes make of a network
abbrev pub AreBehind : Network → List Suffix → Network → Type 0
AreBehind n suffixes r = IsFor (with_suffixes (kind_of_network n) suffixes) (AreSuffixed suffixes (WordsOf n) (PairsOf n)) (RelateSuffixed suffixes (PairsOf n)) r

-- one suffix more
pub behind_more : (n now r : Network) (suffixes : List Suffix) (i : ℕ) (d : Suffix) → i < length suffixes → AreBehind n (take i suffixes) now → IsBehind now (get_or suffixes i d) r → AreBehind n (take (i + 1) suffixes) r
behind_more n now r suffixes i d within before behind =
    suffixes_halves n now r (take i suffixes) (get_or suffixes i d ∷ []) (take (i + 1) suffixes) (sym (take_more suffixes i d within)) before behind
