-- Repetitions of words by their number, and what pairs of words they relate.
use Rattle.std.proofs.Common.{◌≡◌, ◌≤◌, ◌↔◌, ◌⊎◌, ◌+◌, ℕ, zero, suc, inl, inr, List, [], ◌∷◌, ◌++◌, All, length, map, take, drop, refl, sym, ap, subst, ◌∙◌, arith, length-append, append-nil}
use Rattle.std.proofs.lemmas.Bool.{cases_lt}
use Rattle.std.proofs.lemmas.List.{take-append-drop, length-take, length-drop}
use Rattle.std.proofs.lemmas.List.Elements.{All-nil, All-cons, All-head, All-tail, All-append, All-take, All-drop}
use Rattle.fsm_base.specs.declared.letters.Sym.{Sym}
use Rattle.fsm_base.specs.declared.letters.Pair.{Pair}
use Rattle.word_relations.specs.Words.{joined, IsConcatenation, IsRepetition}
use Rattle.word_relations.specs.Relations.{AreSame, IsRepetitionOfPairs}
use Rattle.word_relations.proofs.Laws.{joined-append}
use Rattle.fsa.specs.Automaton.{Automaton}
use Rattle.fsa.specs.Language.{Accepts}
use Rattle.fst_algebra.specs.Relation.{uppers, lowers}
use Rattle.fst_algebra.proofs.Languages.{uppers-append, lowers-append, RelatedIn}
use Rattle.expr_meaning.specs.Operators.{IsRepetitionOf, AnyNumber, OneOrMore, Just}
use Rattle.network_algebra.specs.Networks.{AtMost}

module _ {L : Type 0} (P : List L → Type 0) where
  pub any_number : (w : List L) → IsRepetition P w ↔ IsRepetitionOf AnyNumber P w
  any_number w = (λ (words, is, all). (words, tt, all, is), λ (words, count, all, is). (words, is, all))

  pub no_times : (w : List L) → (w ≡ []) ↔ IsRepetitionOf (Just 0) P w
  no_times w = (λ e. ([], refl, All-nil P, e), back)
    where
      back : IsRepetitionOf (Just 0) P w → w ≡ []
      back ([], count, all, is) = is
      back (x ∷ xs, count, all, is) = absurd (omega (arith, count))

  pub once : (C : ℕ → Type 0) → C 1 → (w : List L) → P w → IsRepetitionOf C P w
  once C c w p = (w ∷ [], c, All-cons P w [] p (All-nil P), sym (append-nil w))

  pub one_time : (w : List L) → P w ↔ IsRepetitionOf (Just 1) P w
  one_time w = (once (Just 1) refl w, back)
    where
      back : IsRepetitionOf (Just 1) P w → P w
      back ([], count, all, is) = absurd (omega (arith, count))
      back (x ∷ [], count, all, is) = subst P (sym (is ∙ append-nil x)) (All-head P x [] all)
      back (x ∷ y ∷ xs, count, all, is) = absurd (omega (arith, count))

  pub together : (C D E : ℕ → Type 0) → ((m n : ℕ) → C m → D n → E (m + n)) → (w : List L) → IsConcatenation (IsRepetitionOf C P) (IsRepetitionOf D P) w → IsRepetitionOf E P w
  together C D E add w (u, v, is, (xs, c, p, e), (ys, d, q, f)) = (
    xs ++ ys,
    subst E (sym (length-append xs ys)) (add (length xs) (length ys) c d),
    All-append P xs ys p q,
    is ∙ ap (λ (z : List L). z ++ v) e ∙ ap (λ (z : List L). joined xs ++ z) f ∙ sym (joined-append xs ys),
  )

  pub sum_times : (m n : ℕ) (w : List L) → IsConcatenation (IsRepetitionOf (Just m) P) (IsRepetitionOf (Just n) P) w ↔ IsRepetitionOf (Just (m + n)) P w
  sum_times m n w = (together (Just m) (Just n) (Just (m + n)) (λ i j e d. omega (arith, e, d)) w, back)
    where
      back : IsRepetitionOf (Just (m + n)) P w → IsConcatenation (IsRepetitionOf (Just m) P) (IsRepetitionOf (Just n) P) w
      back (words, count, all, is) = (
        joined (take m words),
        joined (drop m words),
        is ∙ ap joined (sym (take-append-drop m words)) ∙ joined-append (take m words) (drop m words),
        (take m words, omega (arith, count, length-take m words), All-take P m words all, refl),
        (drop m words, omega (arith, count, length-drop m words), All-drop P m words all, refl),
      )

  pub some_times : (w : List L) → IsConcatenation P (IsRepetitionOf AnyNumber P) w ↔ IsRepetitionOf OneOrMore P w
  some_times w = (there, back)
    where
      there : IsConcatenation P (IsRepetitionOf AnyNumber P) w → IsRepetitionOf OneOrMore P w
      there (u, v, is, p, q) = together (Just 1) AnyNumber OneOrMore (λ i j one any. omega (arith, one)) w (u, v, is, once (Just 1) refl u p, q)

      back : IsRepetitionOf OneOrMore P w → IsConcatenation P (IsRepetitionOf AnyNumber P) w
      back ([], count, all, is) = absurd (omega (arith, count))
      back (x ∷ xs, count, all, is) = (x, joined xs, is, All-head P x xs all, (xs, tt, All-tail P x xs all, refl))

  -- at most so many: at most `i`, or just `j` and then at most `i`
  pub split_times : (i j n : ℕ) → i + j ≡ n → j ≤ i + 1 → (w : List L) → (IsRepetitionOf (AtMost i) P w ⊎ IsConcatenation (IsRepetitionOf (Just j) P) (IsRepetitionOf (AtMost i) P) w) ↔ IsRepetitionOf (AtMost n) P w
  split_times i j n total near w = (
    λ h. elim h as (λ _. IsRepetitionOf (AtMost n) P w) [
      | inl (words, few, all, is) ↦ (words, omega (arith, few, total), all, is)
      | inr both ↦ together (Just j) (AtMost i) (AtMost n) (λ a b just few. omega (arith, just, few, total)) w both
    ],
    back,
  )
    where
      back : IsRepetitionOf (AtMost n) P w → IsRepetitionOf (AtMost i) P w ⊎ IsConcatenation (IsRepetitionOf (Just j) P) (IsRepetitionOf (AtMost i) P) w
      back (words, few, all, is) = elim (cases_lt i (length words)) as (λ _. IsRepetitionOf (AtMost i) P w ⊎ IsConcatenation (IsRepetitionOf (Just j) P) (IsRepetitionOf (AtMost i) P) w) [
        | inl many ↦ inr (
          joined (take j words),
          joined (drop j words),
          is ∙ ap joined (sym (take-append-drop j words)) ∙ joined-append (take j words) (drop j words),
          (take j words, omega (arith, many, near, length-take j words), All-take P j words all, refl),
          (drop j words, omega (arith, few, total, length-drop j words), All-drop P j words all, refl),
        )
        | inr less ↦ inl (words, less, all, is)
      ]

  pub none_at_most : (w : List L) → (w ≡ []) ↔ IsRepetitionOf (AtMost 0) P w
  none_at_most w = (λ e. ([], omega arith, All-nil P, e), back)
    where
      back : IsRepetitionOf (AtMost 0) P w → w ≡ []
      back ([], few, all, is) = is
      back (x ∷ xs, few, all, is) = absurd (omega (arith, few))

-- just so many words, of which any may be empty, are at most so many of the others
module _ {L : Type 0} (P Q : List L → Type 0) (optional : (w : List L) → P w ↔ ((w ≡ []) ⊎ Q w)) where
  filled : (n : ℕ) (words : List (List L)) → length words ≤ n → All Q words → (more : List (List L)) × (length more ≡ n) × All P more × (joined words ≡ joined more)
  filled zero [] few all = ([], refl, All-nil P, refl)
  filled zero (x ∷ xs) few all = absurd (omega (arith, few))
  filled (suc n) [] few all = let rest = filled n [] (omega arith) (All-nil Q) in ([] ∷ rest.0, omega (arith, rest.1), All-cons P [] rest.0 ((optional []).1 (inl refl)) rest.2, rest.3)
  filled (suc n) (x ∷ xs) few all =
      let rest = filled n xs (omega (arith, few)) (All-tail Q x xs all) in
      (x ∷ rest.0, omega (arith, rest.1), All-cons P x rest.0 ((optional x).1 (inr (All-head Q x xs all))) rest.2, ap (λ (z : List L). x ++ z) rest.3)

  others : (words : List (List L)) → All P words → (fewer : List (List L)) × (length fewer ≤ length words) × All Q fewer × (joined words ≡ joined fewer)
  others [] all = ([], omega arith, All-nil Q, refl)
  others (x ∷ xs) all =
      let rest = others xs (All-tail P x xs all) in
      elim ((optional x).0 (All-head P x xs all)) as (λ _. (fewer : List (List L)) × (length fewer ≤ length (x ∷ xs)) × All Q fewer × (joined (x ∷ xs) ≡ joined fewer)) [
        | inl none ↦ (rest.0, omega (arith, rest.1), rest.2, ap (λ (z : List L). z ++ joined xs) none ∙ rest.3)
        | inr held ↦ (x ∷ rest.0, omega (arith, rest.1), All-cons Q x rest.0 held rest.2, ap (λ (z : List L). x ++ z) rest.3)
      ]

  pub optional_times : (n : ℕ) (w : List L) → IsRepetitionOf (AtMost n) Q w ↔ IsRepetitionOf (Just n) P w
  optional_times n w = (
    λ (words, few, all, is). let more = filled n words few all in (more.0, more.1, more.2, is ∙ more.3),
    λ (words, just, all, is). let fewer = others words all in (fewer.0, omega (arith, just, fewer.1), fewer.2, is ∙ fewer.3),
  )

-- the same words repeated
pub repetition_same : {L : Type 0} (C : ℕ → Type 0) (P Q : List L → Type 0) → ((w : List L) → P w → Q w) → (w : List L) → IsRepetitionOf C P w → IsRepetitionOf C Q w
repetition_same {L} C P Q more w (words, count, all, is) = (words, count, each words all, is)
  where
    each : (words : List (List L)) → All P words → All Q words
    each [] h = All-nil Q
    each (x ∷ xs) h = All-cons Q x xs (more x (All-head P x xs h)) (each xs (All-tail P x xs h))

-- automata of repetitions
module _ {L : Type 0} (p : Automaton L) (P : List L → Type 0) where
  pub power_none : (count : ℕ) → count ≡ 0 → ((v : List L) → Accepts p v ↔ (v ≡ [])) → (w : List L) → Accepts p w ↔ IsRepetitionOf (Just count) P w
  power_none count none language w =
      subst (λ n. Accepts p w ↔ IsRepetitionOf (Just n) P w) (sym none) (λ h. (no_times P w).0 ((language w).0 h), λ h. (language w).1 ((no_times P w).1 h))

  pub power_sum : (a b : Automaton L) (i j count : ℕ) → i + j ≡ count → ((w : List L) → Accepts p w ↔ IsConcatenation (Accepts a) (Accepts b) w) → ((w : List L) → Accepts a w ↔ IsRepetitionOf (Just i) P w) → ((w : List L) → Accepts b w ↔ IsRepetitionOf (Just j) P w) → (w : List L) → Accepts p w ↔ IsRepetitionOf (Just count) P w
  power_sum a b i j count total language first second w =
      subst (λ n. Accepts p w ↔ IsRepetitionOf (Just n) P w) total (
        λ h. let r = (language w).0 h in (sum_times P i j w).0 (r.0, r.1, r.2, (first r.0).0 r.3, (second r.1).0 r.4),
        λ h. let r = (sum_times P i j w).1 h in (language w).1 (r.0, r.1, r.2, (first r.0).1 r.3, (second r.1).1 r.4),
      )

  pub at_most_none : (count : ℕ) → count ≡ 0 → ((v : List L) → Accepts p v ↔ (v ≡ [])) → (w : List L) → Accepts p w ↔ IsRepetitionOf (AtMost count) P w
  at_most_none count none language w =
      subst (λ n. Accepts p w ↔ IsRepetitionOf (AtMost n) P w) (sym none) (λ h. (none_at_most P w).0 ((language w).0 h), λ h. (language w).1 ((none_at_most P w).1 h))

  pub at_most_sum : (fewer half more : Automaton L) (i j count : ℕ) → i + j ≡ count → j ≤ i + 1 → ((w : List L) → Accepts p w ↔ (Accepts fewer w ⊎ Accepts more w)) → ((w : List L) → Accepts more w ↔ IsConcatenation (Accepts half) (Accepts fewer) w) → ((w : List L) → Accepts half w ↔ IsRepetitionOf (Just j) P w)
      → ((w : List L) → Accepts fewer w ↔ IsRepetitionOf (AtMost i) P w) → (w : List L) → Accepts p w ↔ IsRepetitionOf (AtMost count) P w
  at_most_sum fewer half more i j count total near language joins first second w = (
    λ h. (split_times P i j count total near w).0 (elim ((language w).0 h) as (λ _. IsRepetitionOf (AtMost i) P w ⊎ IsConcatenation (IsRepetitionOf (Just j) P) (IsRepetitionOf (AtMost i) P) w) [
      | inl few ↦ inl ((second w).0 few)
      | inr many ↦ let r = (joins w).0 many in inr (r.0, r.1, r.2, (first r.0).0 r.3, (second r.1).0 r.4)
    ]),
    λ h. (language w).1 (elim ((split_times P i j count total near w).1 h) as (λ _. Accepts fewer w ⊎ Accepts more w) [
      | inl few ↦ inl ((second w).1 few)
      | inr (u, v, is, a, b) ↦ inr ((joins w).1 (u, v, is, (first u).1 a, (second v).1 b))
    ]),
  )

  pub power_any : ((w : List L) → Accepts p w ↔ IsRepetition P w) → (w : List L) → Accepts p w ↔ IsRepetitionOf AnyNumber P w
  power_any language w = (λ h. (any_number P w).0 ((language w).0 h), λ h. (language w).1 ((any_number P w).1 h))

pub optional_power : {L : Type 0} (p rest m : Automaton L) (count : ℕ) → ((w : List L) → Accepts m w ↔ ((w ≡ []) ⊎ Accepts rest w)) → ((w : List L) → Accepts p w ↔ IsRepetitionOf (AtMost count) (Accepts rest) w) → (w : List L) → Accepts p w ↔ IsRepetitionOf (Just count) (Accepts m) w
optional_power p rest m count besides language w =
    let same = optional_times (Accepts m) (Accepts rest) besides count w in
    (λ h. same.0 ((language w).0 h), λ h. (language w).1 (same.1 h))

pub power_some : {L : Type 0} (p a s : Automaton L) → ((w : List L) → Accepts p w ↔ IsConcatenation (Accepts a) (Accepts s) w) → ((w : List L) → Accepts s w ↔ IsRepetition (Accepts a) w) → (w : List L) → Accepts p w ↔ IsRepetitionOf OneOrMore (Accepts a) w
power_some p a s language repeated w = (
  λ h. let r = (language w).0 h in (some_times (Accepts a) w).0 (r.0, r.1, r.2, r.3, (power_any s (Accepts a) repeated r.1).0 r.4),
  λ h. let r = (some_times (Accepts a) w).1 h in (language w).1 (r.0, r.1, r.2, r.3, (power_any s (Accepts a) repeated r.1).1 r.4),
)

module _ (P : List Pair → Type 0) where
  abbrev Each : List (List Sym × List Sym) → Type 0
  Each pairs = All (λ (p : List Sym × List Sym). RelatedIn P p.0 p.1) pairs

  abbrev uppers_of : List (List Sym × List Sym) → List Sym
  uppers_of pairs = joined (map (λ (p : List Sym × List Sym). p.0) pairs)

  abbrev lowers_of : List (List Sym × List Sym) → List Sym
  lowers_of pairs = joined (map (λ (p : List Sym × List Sym). p.1) pairs)

  -- the two sides of each word
  sides : (words : List (List Pair)) → All P words
      → (pairs : List (List Sym × List Sym)) × (length pairs ≡ length words) × Each pairs × (uppers (joined words) ≡ uppers_of pairs) × (lowers (joined words) ≡ lowers_of pairs)
  sides [] h = ([], refl, All-nil (λ (p : List Sym × List Sym). RelatedIn P p.0 p.1), refl, refl)
  sides (v ∷ words) h =
      let rest = sides words (All-tail P v words h) in (
        (uppers v, lowers v) ∷ rest.0,
        omega (arith, rest.1),
        All-cons (λ (p : List Sym × List Sym). RelatedIn P p.0 p.1) (uppers v, lowers v) rest.0 (v, All-head P v words h, refl, refl) rest.2,
        uppers-append v (joined words) ∙ ap (λ (z : List Sym). uppers v ++ z) rest.3,
        lowers-append v (joined words) ∙ ap (λ (z : List Sym). lowers v ++ z) rest.4,
      )

  -- a word of pairs for each pair of words
  chosen : (pairs : List (List Sym × List Sym)) → Each pairs
      → (words : List (List Pair)) × (length words ≡ length pairs) × All P words × (uppers (joined words) ≡ uppers_of pairs) × (lowers (joined words) ≡ lowers_of pairs)
  chosen [] h = ([], refl, All-nil P, refl, refl)
  chosen (x ∷ pairs) h =
      let here = All-head (λ (p : List Sym × List Sym). RelatedIn P p.0 p.1) x pairs h in
      let rest = chosen pairs (All-tail (λ (p : List Sym × List Sym). RelatedIn P p.0 p.1) x pairs h) in (
        here.0 ∷ rest.0,
        omega (arith, rest.1),
        All-cons P here.0 rest.0 here.1 rest.2,
        uppers-append here.0 (joined rest.0) ∙ ap (λ (z : List Sym). z ++ uppers (joined rest.0)) here.2 ∙ ap (λ (z : List Sym). x.0 ++ z) rest.3,
        lowers-append here.0 (joined rest.0) ∙ ap (λ (z : List Sym). z ++ lowers (joined rest.0)) here.3 ∙ ap (λ (z : List Sym). x.1 ++ z) rest.4,
      )

  pub related_repeated : (C : ℕ → Type 0) → AreSame (RelatedIn (IsRepetitionOf C P)) (IsRepetitionOfPairs C (RelatedIn P))
  related_repeated C u w = (there, back)
    where
      there : RelatedIn (IsRepetitionOf C P) u w → IsRepetitionOfPairs C (RelatedIn P) u w
      there (v, (words, count, all, is), e, d) =
          let r = sides words all in
          (r.0, subst C (sym r.1) count, r.2, sym e ∙ ap uppers is ∙ r.3, sym d ∙ ap lowers is ∙ r.4)

      back : IsRepetitionOfPairs C (RelatedIn P) u w → RelatedIn (IsRepetitionOf C P) u w
      back (pairs, count, all, e, d) =
          let r = chosen pairs all in
          (joined r.0, (r.0, subst C (sym r.1) count, r.2, refl), r.3 ∙ sym e, r.4 ∙ sym d)
