-- What the operations on languages of pairs do to relations.
use Rattle.std.proofs.Common.{◌≡◌, ◌↔◌, ◌⊎◌, ◌++◌, List, [], ◌∷◌, All, map, refl, sym, ap, subst, ◌∙◌, inl, inr}
use Rattle.std.proofs.lemmas.List.Concat.{flat_map-append}
use Rattle.std.proofs.lemmas.List.Elements.{All-nil, All-cons, All-head, All-tail}
use Rattle.std.specs.Option.{option_to_list}
use Rattle.std.specs.Prelude.{Option}
use Rattle.fsm_base.specs.declared.letters.Sym.{Sym}
use Rattle.fsm_base.specs.declared.letters.Pair.{Pair}
use Rattle.word_relations.specs.Words.{joined, IsConcatenation, IsRepetition}
use Rattle.word_relations.specs.Relations.{AreSame, IsConcatenationOfPairs, IsRepetitionOfPairs}
use Rattle.fsa.specs.Automaton.{Automaton}
use Rattle.fsa.specs.Language.{Accepts}
use Rattle.fst_algebra.specs.Relation.{symbols_on, uppers, lowers, IsRelated}

pub symbols_on-append : (side : Pair → Option Sym) (v w : List Pair) → symbols_on side (v ++ w) ≡ symbols_on side v ++ symbols_on side w
symbols_on-append side v w = flat_map-append (λ pair. option_to_list (side pair)) v w

pub uppers-append : (v w : List Pair) → uppers (v ++ w) ≡ uppers v ++ uppers w
uppers-append v w = symbols_on-append (λ pair. pair.up) v w

pub lowers-append : (v w : List Pair) → lowers (v ++ w) ≡ lowers v ++ lowers w
lowers-append v w = symbols_on-append (λ pair. pair.low) v w

-- the relation of a language of pairs
abbrev pub RelatedIn : (List Pair → Type 0) → List Sym → List Sym → Type 0
RelatedIn P u w = (pairs : List Pair) × P pairs × (uppers pairs ≡ u) × (lowers pairs ≡ w)

-- the same language relates the same words
pub related_same : (P Q : List Pair → Type 0) → ((v : List Pair) → P v ↔ Q v) → AreSame (RelatedIn P) (RelatedIn Q)
related_same P Q same u w = (λ (v, p, e, d). (v, (same v).0 p, e, d), λ (v, q, e, d). (v, (same v).1 q, e, d))

-- one word of pairs alone
pub related_one : (v : List Pair) → AreSame (RelatedIn (λ x. x ≡ v)) (λ u w. (u ≡ uppers v) × (w ≡ lowers v))
related_one v u w = (λ (x, is, e, d). (sym e ∙ ap uppers is, sym d ∙ ap lowers is), λ h. (v, refl, sym h.0, sym h.1))

pub related_union : (P Q : List Pair → Type 0) → AreSame (RelatedIn (λ v. P v ⊎ Q v)) (λ u w. RelatedIn P u w ⊎ RelatedIn Q u w)
related_union P Q u w = (
  λ (v, or, e, d). elim or as (λ _. RelatedIn P u w ⊎ RelatedIn Q u w) [ inl p ↦ inl (v, p, e, d) | inr q ↦ inr (v, q, e, d) ],
  λ or. elim or as (λ _. RelatedIn (λ v. P v ⊎ Q v) u w) [ inl (v, p, e, d) ↦ (v, inl p, e, d) | inr (v, q, e, d) ↦ (v, inr q, e, d) ],
)

pub related_concatenation : (P Q : List Pair → Type 0) → AreSame (RelatedIn (IsConcatenation P Q)) (IsConcatenationOfPairs (RelatedIn P) (RelatedIn Q))
related_concatenation P Q u w = (
  λ (v, (x, y, is, p, q), e, d). (uppers x, uppers y, lowers x, lowers y, sym e ∙ ap uppers is ∙ uppers-append x y, sym d ∙ ap lowers is ∙ lowers-append x y, (x, p, refl, refl), (y, q, refl, refl)),
  λ (u1, u2, w1, w2, e, d, (x, p, e1, d1), (y, q, e2, d2)). (
    x ++ y,
    (x, y, refl, p, q),
    uppers-append x y ∙ ap (λ (z : List Sym). z ++ uppers y) e1 ∙ ap (λ (z : List Sym). u1 ++ z) e2 ∙ sym e,
    lowers-append x y ∙ ap (λ (z : List Sym). z ++ lowers y) d1 ∙ ap (λ (z : List Sym). w1 ++ z) d2 ∙ sym d,
  ),
)

module _ (P : List Pair → Type 0) where
  -- the two sides of each word
  abbrev sides : List (List Pair) → List (List Sym × List Sym)
  sides words = map (λ v. (uppers v, lowers v)) words

  each_related : (words : List (List Pair)) → All P words → All (λ (p : List Sym × List Sym). RelatedIn P p.0 p.1) (sides words)
  each_related [] h = All-nil (λ (p : List Sym × List Sym). RelatedIn P p.0 p.1)
  each_related (v ∷ words) h =
      All-cons (λ (p : List Sym × List Sym). RelatedIn P p.0 p.1) (uppers v, lowers v) (sides words) (v, All-head P v words h, refl, refl) (each_related words (All-tail P v words h))

  uppers-joined : (words : List (List Pair)) → uppers (joined words) ≡ joined (map (λ (p : List Sym × List Sym). p.0) (sides words))
  uppers-joined [] = refl
  uppers-joined (v ∷ words) = uppers-append v (joined words) ∙ ap (λ (z : List Sym). uppers v ++ z) (uppers-joined words)

  lowers-joined : (words : List (List Pair)) → lowers (joined words) ≡ joined (map (λ (p : List Sym × List Sym). p.1) (sides words))
  lowers-joined [] = refl
  lowers-joined (v ∷ words) = lowers-append v (joined words) ∙ ap (λ (z : List Sym). lowers v ++ z) (lowers-joined words)

  -- a word of pairs for each pair of words
  chosen : (pairs : List (List Sym × List Sym)) → All (λ (p : List Sym × List Sym). RelatedIn P p.0 p.1) pairs
      → (words : List (List Pair)) × All P words × (uppers (joined words) ≡ joined (map (λ (p : List Sym × List Sym). p.0) pairs)) × (lowers (joined words) ≡ joined (map (λ (p : List Sym × List Sym). p.1) pairs))
  chosen [] h = ([], All-nil P, refl, refl)
  chosen (x ∷ pairs) h =
      let here = All-head (λ (p : List Sym × List Sym). RelatedIn P p.0 p.1) x pairs h in
      let rest = chosen pairs (All-tail (λ (p : List Sym × List Sym). RelatedIn P p.0 p.1) x pairs h) in (
        here.0 ∷ rest.0,
        All-cons P here.0 rest.0 here.1 rest.1,
        uppers-append here.0 (joined rest.0) ∙ ap (λ (z : List Sym). z ++ uppers (joined rest.0)) here.2 ∙ ap (λ (z : List Sym). x.0 ++ z) rest.2,
        lowers-append here.0 (joined rest.0) ∙ ap (λ (z : List Sym). z ++ lowers (joined rest.0)) here.3 ∙ ap (λ (z : List Sym). x.1 ++ z) rest.3,
      )

  pub related_repetition : AreSame (RelatedIn (IsRepetition P)) (IsRepetitionOfPairs (λ n. Unit {0}) (RelatedIn P))
  related_repetition u w = (
    λ (v, (words, is, p), e, d). (sides words, tt, each_related words p, sym e ∙ ap uppers is ∙ uppers-joined words, sym d ∙ ap lowers is ∙ lowers-joined words),
    λ (pairs, count, h, e, d).
        let words = chosen pairs h in
        (joined words.0, (words.0, refl, words.1), words.2 ∙ sym e, words.3 ∙ sym d),
  )
