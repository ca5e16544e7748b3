-- Laws of the concatenation and repetition of relations.
use Rattle.std.proofs.Common.{◌≡◌, ◌<◌, ◌+◌, ℕ, List, [], ◌∷◌, ◌++◌, ◌↔◌, All, length, map, take, drop, refl, sym, ap, subst, ◌∙◌, append_assoc, append-nil, arith, length-append, zero, suc}
use Rattle.std.proofs.lemmas.List.{map-append, take-append-drop, length-take, length-drop}
use Rattle.std.proofs.lemmas.List.Elements.{All-nil, All-cons, All-head, All-tail, All-append, All-take, All-drop, All-weaker}
use Rattle.word_relations.specs.Words.{joined}
use Rattle.word_relations.specs.Relations.{AreSame, IsConcatenationOfPairs, IsRepetitionOfPairs}
use Rattle.word_relations.proofs.Laws.{joined-append}

abbrev uppers_of : {L : Type 0} → List (List L × List L) → List L
uppers_of {L} pairs = joined (map (λ (p : List L × List L). p.0) pairs)

abbrev lowers_of : {L : Type 0} → List (List L × List L) → List L
lowers_of {L} pairs = joined (map (λ (p : List L × List L). p.1) pairs)

module _ {L : Type 0} where
  upper-append : (ps qs : List (List L × List L)) → uppers_of (ps ++ qs) ≡ uppers_of ps ++ uppers_of qs
  upper-append ps qs = ap joined (map-append (λ (p : List L × List L). p.0) ps qs) ∙ joined-append (map (λ (p : List L × List L). p.0) ps) (map (λ (p : List L × List L). p.0) qs)

  lower-append : (ps qs : List (List L × List L)) → lowers_of (ps ++ qs) ≡ lowers_of ps ++ lowers_of qs
  lower-append ps qs = ap joined (map-append (λ (p : List L × List L). p.1) ps qs) ∙ joined-append (map (λ (p : List L × List L). p.1) ps) (map (λ (p : List L × List L). p.1) qs)

  -- a larger relation has a larger concatenation and a larger repetition
  pub concatenation_more : (P Q P' Q' : List L → List L → Type 0) → ((u w : List L) → P u w → P' u w) → ((u w : List L) → Q u w → Q' u w) → (u w : List L) → IsConcatenationOfPairs P Q u w → IsConcatenationOfPairs P' Q' u w
  concatenation_more P Q P' Q' f g u w (u1, u2, w1, w2, e, d, p, q) = (u1, u2, w1, w2, e, d, f u1 w1 p, g u2 w2 q)

  pub repetition_more : (C D : ℕ → Type 0) (P Q : List L → List L → Type 0) → ((n : ℕ) → C n → D n) → ((u w : List L) → P u w → Q u w) → (u w : List L) → IsRepetitionOfPairs C P u w → IsRepetitionOfPairs D Q u w
  repetition_more C D P Q count more u w (pairs, c, all, e, d) =
      (pairs, count (length pairs) c, All-weaker (λ (p : List L × List L). P p.0 p.1) (λ (p : List L × List L). Q p.0 p.1) (λ p h. more p.0 p.1 h) pairs all, e, d)

  pub concatenation_same : (P Q P' Q' : List L → List L → Type 0) → AreSame P P' → AreSame Q Q' → AreSame (IsConcatenationOfPairs P Q) (IsConcatenationOfPairs P' Q')
  concatenation_same P Q P' Q' f g u w =
      (concatenation_more P Q P' Q' (λ u w. (f u w).0) (λ u w. (g u w).0) u w, concatenation_more P' Q' P Q (λ u w. (f u w).1) (λ u w. (g u w).1) u w)

  pub repetition_same : (C : ℕ → Type 0) (P Q : List L → List L → Type 0) → AreSame P Q → AreSame (IsRepetitionOfPairs C P) (IsRepetitionOfPairs C Q)
  repetition_same C P Q f u w =
      (repetition_more C C P Q (λ n c. c) (λ u w. (f u w).0) u w, repetition_more C C Q P (λ n c. c) (λ u w. (f u w).1) u w)

module _ {L : Type 0} (P : List L → List L → Type 0) where
  abbrev Each : List (List L × List L) → Type 0
  Each pairs = All (λ p. P p.0 p.1) pairs

  -- a pair alone
  pub repetition_one : (C : ℕ → Type 0) → C 1 → (u w : List L) → P u w → IsRepetitionOfPairs C P u w
  repetition_one C c u w p = ((u, w) ∷ [], c, All-cons (λ (p : List L × List L). P p.0 p.1) (u, w) [] p (All-nil (λ (p : List L × List L). P p.0 p.1)), sym (append-nil u), sym (append-nil w))

  -- repetitions in a row, whose counts are added
  pub repetition_append : (C D E : ℕ → Type 0) → ((m n : ℕ) → C m → D n → E (m + n)) → (u w : List L) → IsConcatenationOfPairs (IsRepetitionOfPairs C P) (IsRepetitionOfPairs D P) u w → IsRepetitionOfPairs E P u w
  repetition_append C D E add u w (u1, u2, w1, w2, e, d, (ps, c, p, e1, d1), (qs, c', q, e2, d2)) = (
    ps ++ qs,
    subst E (sym (length-append ps qs)) (add (length ps) (length qs) c c'),
    All-append (λ (p : List L × List L). P p.0 p.1) ps qs p q,
    e ∙ ap (λ (z : List L). z ++ u2) e1 ∙ ap (λ (z : List L). uppers_of ps ++ z) e2 ∙ sym (upper-append ps qs),
    d ∙ ap (λ (z : List L). z ++ w2) d1 ∙ ap (λ (z : List L). lowers_of ps ++ z) d2 ∙ sym (lower-append ps qs),
  )

  -- no pair at all relates the empty words
  pub repetition_zero : AreSame (IsRepetitionOfPairs (λ n. n ≡ 0) P) (λ u w. (u ≡ []) × (w ≡ []))
  repetition_zero u w = (there, λ h. ([], refl, All-nil (λ (p : List L × List L). P p.0 p.1), h.0, h.1))
    where
      there : IsRepetitionOfPairs (λ n. n ≡ 0) P u w → (u ≡ []) × (w ≡ [])
      there ([], c, p, e, d) = (e, d)
      there (x ∷ xs, c, p, e, d) = absurd (omega (arith, c))

  -- a number of pairs, and then another number
  pub repetition_sum : (m n : ℕ) → AreSame (IsRepetitionOfPairs (λ k. k ≡ m + n) P) (IsConcatenationOfPairs (IsRepetitionOfPairs (λ k. k ≡ m) P) (IsRepetitionOfPairs (λ k. k ≡ n) P))
  repetition_sum m n u w = (there, repetition_append (λ k. k ≡ m) (λ k. k ≡ n) (λ k. k ≡ m + n) (λ i j e d. omega (arith, e, d)) u w)
    where
      there : IsRepetitionOfPairs (λ k. k ≡ m + n) P u w → IsConcatenationOfPairs (IsRepetitionOfPairs (λ k. k ≡ m) P) (IsRepetitionOfPairs (λ k. k ≡ n) P) u w
      there (ps, c, p, e, d) =
          let parts = take-append-drop m ps in (
            uppers_of (take m ps),
            uppers_of (drop m ps),
            lowers_of (take m ps),
            lowers_of (drop m ps),
            e ∙ ap uppers_of (sym parts) ∙ upper-append (take m ps) (drop m ps),
            d ∙ ap lowers_of (sym parts) ∙ lower-append (take m ps) (drop m ps),
            (take m ps, omega (arith, c, length-take m ps), All-take (λ (p : List L × List L). P p.0 p.1) m ps p, refl, refl),
            (drop m ps, omega (arith, c, length-drop m ps), All-drop (λ (p : List L × List L). P p.0 p.1) m ps p, refl, refl),
          )

  -- just one pair
  pub repetition_single : AreSame (IsRepetitionOfPairs (λ n. n ≡ 1) P) P
  repetition_single u w = (there, repetition_one (λ n. n ≡ 1) refl u w)
    where
      there : IsRepetitionOfPairs (λ n. n ≡ 1) P u w → P u w
      there ([], c, p, e, d) = absurd (omega (arith, c))
      there (x ∷ [], c, p, e, d) =
          let one : P x.0 x.1 = All-head (λ (p : List L × List L). P p.0 p.1) x [] p in
          subst (λ (z : List L). P z w) (sym (e ∙ append-nil x.0)) (subst (λ (z : List L). P x.0 z) (sym (d ∙ append-nil x.1)) one)
      there (x ∷ y ∷ xs, c, p, e, d) = absurd (omega (arith, c))

  -- one pair or more: a pair and then any number
  pub repetition_some : AreSame (IsRepetitionOfPairs (λ n. 0 < n) P) (IsConcatenationOfPairs P (IsRepetitionOfPairs (λ n. Unit {0}) P))
  repetition_some u w = (there, back)
    where
      there : IsRepetitionOfPairs (λ n. 0 < n) P u w → IsConcatenationOfPairs P (IsRepetitionOfPairs (λ n. Unit {0}) P) u w
      there ([], c, p, e, d) = absurd (omega (arith, c))
      there (x ∷ xs, c, p, e, d) = (
        x.0,
        uppers_of xs,
        x.1,
        lowers_of xs,
        e,
        d,
        All-head (λ (p : List L × List L). P p.0 p.1) x xs p,
        (xs, tt, All-tail (λ (p : List L × List L). P p.0 p.1) x xs p, refl, refl),
      )

      back : IsConcatenationOfPairs P (IsRepetitionOfPairs (λ n. Unit {0}) P) u w → IsRepetitionOfPairs (λ n. 0 < n) P u w
      back (u1, u2, w1, w2, e, d, p, q) =
          repetition_append (λ n. n ≡ 1) (λ n. Unit {0}) (λ n. 0 < n) (λ i j one any. omega (arith, one)) u w
          (u1, u2, w1, w2, e, d, repetition_one (λ n. n ≡ 1) refl u1 w1 p, q)

module _ {L : Type 0} where
  pub concatenation_assoc : (P Q R : List L → List L → Type 0) → AreSame (IsConcatenationOfPairs (IsConcatenationOfPairs P Q) R) (IsConcatenationOfPairs P (IsConcatenationOfPairs Q R))
  concatenation_assoc P Q R u w = (
    λ (u12, u3, w12, w3, e, d, (u1, u2, w1, w2, e', d', p, q), r). (
      u1,
      u2 ++ u3,
      w1,
      w2 ++ w3,
      e ∙ ap (λ (z : List L). z ++ u3) e' ∙ append_assoc u1 u2 u3,
      d ∙ ap (λ (z : List L). z ++ w3) d' ∙ append_assoc w1 w2 w3,
      p,
      (u2, u3, w2, w3, refl, refl, q, r),
    ),
    λ (u1, u23, w1, w23, e, d, p, (u2, u3, w2, w3, e', d', q, r)). (
      u1 ++ u2,
      u3,
      w1 ++ w2,
      w3,
      e ∙ ap (λ (z : List L). u1 ++ z) e' ∙ sym (append_assoc u1 u2 u3),
      d ∙ ap (λ (z : List L). w1 ++ z) d' ∙ sym (append_assoc w1 w2 w3),
      (u1, u2, w1, w2, refl, refl, p, q),
      r,
    ),
  )

  -- only the pair of empty words
  abbrev pub AreEmpty : List L → List L → Type 0
  AreEmpty u w = (u ≡ []) × (w ≡ [])

  pub concatenation_empty_left : (P : List L → List L → Type 0) → AreSame (IsConcatenationOfPairs AreEmpty P) P
  concatenation_empty_left P u w = (
    λ (u1, u2, w1, w2, e, d, (none, none'), p).
        subst (λ (z : List L). P z w) (sym (e ∙ ap (λ (z : List L). z ++ u2) none)) (subst (λ (z : List L). P u2 z) (sym (d ∙ ap (λ (z : List L). z ++ w2) none')) p),
    λ p. ([], u, [], w, refl, refl, (refl, refl), p),
  )

  pub concatenation_empty_right : (P : List L → List L → Type 0) → AreSame (IsConcatenationOfPairs P AreEmpty) P
  concatenation_empty_right P u w = (
    λ (u1, u2, w1, w2, e, d, p, (none, none')).
        subst (λ (z : List L). P z w) (sym (e ∙ ap (λ (z : List L). u1 ++ z) none ∙ append-nil u1)) (subst (λ (z : List L). P u1 z) (sym (d ∙ ap (λ (z : List L). w1 ++ z) none' ∙ append-nil w1)) p),
    λ p. (u, [], w, [], sym (append-nil u), sym (append-nil w), p, (refl, refl)),
  )

  pub same_trans : (P Q R : List L → List L → Type 0) → AreSame P Q → AreSame Q R → AreSame P R
  same_trans P Q R f g u w = (λ p. (g u w).0 ((f u w).0 p), λ r. (f u w).1 ((g u w).1 r))

  pub same_back : (P Q : List L → List L → Type 0) → AreSame P Q → AreSame Q P
  same_back P Q f u w = ((f u w).1, (f u w).0)
