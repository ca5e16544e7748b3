-- Laws of concatenation and repetition of sets of words.
use Rattle.std.proofs.Common.{◌≡◌, List, [], ◌∷◌, ◌++◌, ◌⊎◌, ◌↔◌, All, get_or, refl, sym, ap, subst, inl, inr, ◌∙◌, append_assoc}
use Rattle.std.specs.List.{Contains}
use Rattle.std.proofs.lemmas.List.{append-nil}
use Rattle.std.proofs.lemmas.List.Elements.{All-nil, All-cons, All-head, All-tail, All-append}
use Rattle.word_relations.specs.Words.{IsOver, joined, IsConcatenation, IsRepetition}

pub joined-append : {L : Type 0} (xs ys : List (List L)) → joined (xs ++ ys) ≡ joined xs ++ joined ys
joined-append [] ys = refl
joined-append (x ∷ xs) ys = ap (λ w. x ++ w) (joined-append xs ys) ∙ sym (append_assoc x (joined xs) (joined ys))

module _ {L : Type 0} where
  pub IsConcatenation-more : (P Q P' Q' : List L → Type 0) → ((w : List L) → P w → P' w) → ((w : List L) → Q w → Q' w) → (w : List L) → IsConcatenation P Q w → IsConcatenation P' Q' w
  IsConcatenation-more P Q P' Q' f g w (u, v, e, p, q) = (u, v, e, f u p, g v q)

  pub IsConcatenation-assoc : (P Q R : List L → Type 0) (w : List L) → IsConcatenation (IsConcatenation P Q) R w ↔ IsConcatenation P (IsConcatenation Q R) w
  IsConcatenation-assoc P Q R w = (
    λ (uv, z, e, (x, y, f, p, q), r). (x, y ++ z, e ∙ ap (λ u. u ++ z) f ∙ append_assoc x y z, p, (y, z, refl, q, r)),
    λ (x, yz, e, p, (y, z, f, q, r)). (x ++ y, z, e ∙ ap (λ v. x ++ v) f ∙ sym (append_assoc x y z), (x, y, refl, p, q), r),
  )

  pub IsConcatenation-empty_left : (P : List L → Type 0) (w : List L) → IsConcatenation (λ u. u ≡ []) P w ↔ P w
  IsConcatenation-empty_left P w = (
    λ (u, v, e, none, p). subst P (sym (e ∙ ap (λ x. x ++ v) none)) p,
    λ p. ([], w, refl, refl, p),
  )

  pub IsConcatenation-empty_right : (P : List L → Type 0) (w : List L) → IsConcatenation P (λ u. u ≡ []) w ↔ P w
  IsConcatenation-empty_right P w = (
    λ (u, v, e, p, none). subst P (sym (e ∙ ap (λ x. u ++ x) none ∙ append-nil u)) p,
    λ p. (w, [], sym (append-nil w), p, refl),
  )

module _ {L : Type 0} (P : List L → Type 0) where
  pub IsRepetition-none : IsRepetition P []
  IsRepetition-none = ([], refl, All-nil P)

  pub IsRepetition-one : (w : List L) → P w → IsRepetition P w
  IsRepetition-one w p = (w ∷ [], sym (append-nil w), All-cons P w [] p (All-nil P))

  pub IsRepetition-append : (u v : List L) → IsRepetition P u → IsRepetition P v → IsRepetition P (u ++ v)
  IsRepetition-append u v (xs, e, p) (ys, f, q) =
      (xs ++ ys, ap (λ x. x ++ v) e ∙ ap (λ y. joined xs ++ y) f ∙ sym (joined-append xs ys), All-append P xs ys p q)

  pub IsRepetition-more : (Q : List L → Type 0) → ((w : List L) → P w → Q w) → (w : List L) → IsRepetition P w → IsRepetition Q w
  IsRepetition-more Q f w (words, e, p) = (words, e, λ k d l. f (get_or words k d) (p k d l))

  -- a repetition is empty, or begins with one of the words
  pub IsRepetition-first : (w : List L) → IsRepetition P w ↔ ((w ≡ []) ⊎ IsConcatenation P (IsRepetition P) w)
  IsRepetition-first w = (
    unroll,
    λ s. elim s [
      | inl e ↦ subst (IsRepetition P) (sym e) IsRepetition-none
      | inr r ↦ subst (IsRepetition P) (sym r.2) (IsRepetition-append r.0 r.1 (IsRepetition-one r.0 r.3) r.4)
    ],
  )
    where
      unroll : IsRepetition P w → (w ≡ []) ⊎ IsConcatenation P (IsRepetition P) w
      unroll ([], e, p) = inl e
      unroll (x ∷ xs, e, p) = inr (x, joined xs, e, All-head P x xs p, (xs, refl, All-tail P x xs p))

  -- a list of words is empty, or the last comes after the others
  last_word : (words : List (List L)) → All P words → (joined words ≡ []) ⊎ IsConcatenation (IsRepetition P) P (joined words)
  last_word [] p = inl refl
  last_word (x ∷ xs) p = elim (last_word xs (All-tail P x xs p)) [
    | inl none ↦ inr ([], x, ap (λ v. x ++ v) none ∙ append-nil x, IsRepetition-none, All-head P x xs p)
    | inr r ↦ inr (x ++ r.0, r.1, ap (λ v. x ++ v) r.2 ∙ sym (append_assoc x r.0 r.1), IsRepetition-append x r.0 (IsRepetition-one x (All-head P x xs p)) r.3, r.4)
  ]

  -- a repetition is empty, or ends with one of the words
  pub IsRepetition-last : (w : List L) → IsRepetition P w ↔ ((w ≡ []) ⊎ IsConcatenation (IsRepetition P) P w)
  IsRepetition-last w = (
    λ (words, e, p). subst (λ v. (v ≡ []) ⊎ IsConcatenation (IsRepetition P) P v) (sym e) (last_word words p),
    λ s. elim s [
      | inl e ↦ subst (IsRepetition P) (sym e) IsRepetition-none
      | inr r ↦ subst (IsRepetition P) (sym r.2) (IsRepetition-append r.0 r.1 r.3 (IsRepetition-one r.1 r.4))
    ],
  )

  flattened : (words : List (List L)) → All (IsRepetition P) words → IsRepetition P (joined words)
  flattened [] p = IsRepetition-none
  flattened (x ∷ xs) p =
      IsRepetition-append x (joined xs) (All-head (IsRepetition P) x xs p) (flattened xs (All-tail (IsRepetition P) x xs p))

  -- a repetition of repetitions is a repetition
  pub IsRepetition-twice : (w : List L) → IsRepetition (IsRepetition P) w ↔ IsRepetition P w
  IsRepetition-twice w = (
    λ (words, e, p). subst (IsRepetition P) (sym e) (flattened words p),
    λ r. (w ∷ [], sym (append-nil w), All-cons (IsRepetition P) w [] r (All-nil (IsRepetition P))),
  )

-- the words of one letter
abbrev pub IsLetter : {L : Type 0} → List L → List L → Type 0
IsLetter {L} letters w = (x : L) × Contains letters x × (w ≡ x ∷ [])

module _ {L : Type 0} (letters : List L) where
  over_repeats : (w : List L) → IsOver letters w → IsRepetition (IsLetter letters) w
  over_repeats [] over = IsRepetition-none (IsLetter letters)
  over_repeats (x ∷ w) over =
      IsRepetition-append (IsLetter letters) (x ∷ []) w
      (IsRepetition-one (IsLetter letters) (x ∷ []) (x, All-head (Contains letters) x w over, refl))
      (over_repeats w (All-tail (Contains letters) x w over))

  repeats_over : (words : List (List L)) → All (IsLetter letters) words → IsOver letters (joined words)
  repeats_over [] p = All-nil (Contains letters)
  repeats_over (u ∷ us) p =
      let one = All-head (IsLetter letters) u us p in
      let over : IsOver letters u = subst (IsOver letters) (sym one.2) (All-cons (Contains letters) one.0 [] one.1 (All-nil (Contains letters))) in
      All-append (Contains letters) u (joined us) over (repeats_over us (All-tail (IsLetter letters) u us p))

  -- the words over the letters are the repetitions of one letter
  pub IsOver-repetition : (w : List L) → IsOver letters w ↔ IsRepetition (IsLetter letters) w
  IsOver-repetition w = (over_repeats w, λ (words, e, p). subst (IsOver letters) (sym e) (repeats_over words p))
