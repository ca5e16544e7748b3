-- The concatenation: from each final state of the first operand an epsilon edge leads to the start of the second.
use Rattle.std.proofs.Common.{◌≡◌, ℕ, ◌+◌, ◌<◌, ◌⊎◌, ◌↔◌, List, [], ◌++◌, true, false, Some, length, replicate, refl, subst, sym, ap, inl, inr, arith, ◌∙◌, append_assoc, length-append}
use Rattle.std.specs.Option.{option_to_list}
use Rattle.std.specs.List.{Contains, slice_get}
use Rattle.std.proofs.lemmas.List.{append-nil, length-replicate}
use Rattle.std.proofs.lemmas.Option.{slice_get_within}
use Rattle.word_relations.specs.Words.{IsConcatenation}
use Rattle.word_relations.proofs.Members.{Contains-nil_cases}
use Rattle.word_relations.proofs.Places.{slice_get-append_cases, slice_get-append_right}
use Rattle.fsa.specs.Automaton.{Automaton, IsFinal, IsWellFormed, UsesLetter}
use Rattle.fsa.specs.Language.{AcceptsFrom, Accepts, stop, skip}
use Rattle.fsa.specs.declared.automaton.Edge.{Edge}
use Rattle.fsa_rational.specs.Shapes.{Extends, ComesFrom, LeavesFinal, epsilon, shifted}
use Rattle.fsa_rational.proofs.Walks.{AcceptsFrom-least, AcceptsFrom-step, AcceptsFrom-moved, unmarked_states}

-- the edges of the concatenation, the second operand's states being raised by n
pub data ConcatEdge {L : Type 0} (a b : Automaton L) (n : ℕ) : Edge L → Type 0 where
  of_first : (e : Edge L) → Contains a.edges e → ConcatEdge a b n (shifted 0 e)
  of_second : (e : Edge L) → Contains b.edges e → ConcatEdge a b n (shifted n e)
  between : (q : ℕ) → IsFinal a q → ConcatEdge a b n (epsilon (q + 0) n)

pub record IsConcat {L : Type 0} (a b : Automaton L) (m : Automaton L) : Type 0 where
  pub finals : m.finals ≡ replicate (length a.finals) false ++ b.finals
  pub only : (e : Edge L) → Contains m.edges e → ConcatEdge a b (length a.finals) e
  pub all : (e : Edge L) → ConcatEdge a b (length a.finals) e → Contains m.edges e

module _ {L : Type 0} (a b : Automaton L) (start one two m : Automaton L)
    (none : start.edges ≡ []) (finals : start.finals ≡ replicate (length a.finals) false ++ b.finals)
    (first : Extends start one (ComesFrom (shifted 0) a.edges)) (second : Extends one two (ComesFrom (shifted (length a.finals)) b.edges))
    (third : Extends two m (LeavesFinal a.finals 0 (length a.finals))) where
  pub concat_shape : IsConcat a b m
  concat_shape = record {
    finals = third.finals ∙ second.finals ∙ first.finals ∙ finals;
    only = λ e h. elim (third.only e h) [
      | inr r ↦ subst (ConcatEdge a b (length a.finals)) (sym r.2) (between r.0 r.1)
      | inl h2 ↦ elim (second.only e h2) [
        | inr r ↦ subst (ConcatEdge a b (length a.finals)) (sym r.2) (of_second r.0 r.1)
        | inl h1 ↦ elim (first.only e h1) [
          | inr r ↦ subst (ConcatEdge a b (length a.finals)) (sym r.2) (of_first r.0 r.1)
          | inl h0 ↦ absurd (Contains-nil_cases e (subst (λ es. Contains es e) none h0))
        ]
      ]
    ];
    all = made;
  }
    where
      made : (e : Edge L) → ConcatEdge a b (length a.finals) e → Contains m.edges e
      made e (of_first x h) = third.kept e (second.kept e (first.all e (x, h, refl)))
      made e (of_second x h) = third.kept e (second.all e (x, h, refl))
      made e (between q h) = third.all e (q, h, refl)

module _ {L : Type 0} (a b : Automaton L) (a_ok : IsWellFormed a) (b_ok : IsWellFormed b) (m : Automaton L) (is : IsConcat a b m) where
  -- what each state of the concatenation accepts
  record Part (s : ℕ) (w : List L) : Type 0 where
    in_first : s < length a.finals → (u : List L) × (v : List L) × (w ≡ u ++ v) × AcceptsFrom a s u × Accepts b v
    in_second : (p : ℕ) → s ≡ p + length a.finals → AcceptsFrom b p w

  final : (s : ℕ) → IsFinal m s → Part s []
  final s h =
      let at : slice_get (replicate (length a.finals) false ++ b.finals) s ≡ Some true = subst (λ fs. slice_get fs s ≡ Some true) is.finals h in
      let long : length (replicate (length a.finals) false) ≡ length a.finals = length-replicate (length a.finals) false in
      elim (slice_get-append_cases (replicate (length a.finals) false) b.finals s true at) [
        | inl front ↦ absurd (unmarked_states (length a.finals) s front)
        | inr r ↦ record {
          in_first = λ l. let e : s ≡ r.0 + length (replicate (length a.finals) false) = r.1 in absurd (omega arith);
          in_second = λ p f.
              let e : s ≡ r.0 + length (replicate (length a.finals) false) = r.1 in
              let same : r.0 ≡ p = omega arith in
              subst (λ k. AcceptsFrom b k []) same (stop r.2);
        }
      ]

  step : (e : Edge L) (w : List L) → Part e.to w → ConcatEdge a b (length a.finals) e → Part e.from (option_to_list e.letter ++ w)
  step e w rest (of_first x h) =
      let ends = a_ok.within x h in
      let to : x.to ≡ x.to + 0 = omega arith in
      let from : x.from ≡ x.from + 0 = omega arith in
      record {
        in_first = λ l.
            let r = rest.in_first (omega arith) in
            let there : AcceptsFrom a x.to r.0 = subst (λ k. AcceptsFrom a k r.0) (sym to) r.3 in (
              option_to_list x.letter ++ r.0,
              r.1,
              ap (λ v. option_to_list x.letter ++ v) r.2 ∙ sym (append_assoc (option_to_list x.letter) r.0 r.1),
              subst (λ k. AcceptsFrom a k (option_to_list x.letter ++ r.0)) from (AcceptsFrom-step a x r.0 h there),
              r.4,
            );
        in_second = λ p f. absurd (omega arith);
      }
  step e w rest (of_second x h) = record {
    in_first = λ l. absurd (omega arith);
    in_second = λ p f. let same : x.from ≡ p = omega arith in
        subst (λ k. AcceptsFrom b k (option_to_list x.letter ++ w)) same (AcceptsFrom-step b x w h (rest.in_second x.to refl));
  }
  step e w rest (between q h) =
      let within : q < length a.finals = slice_get_within a.finals q true h in
      let from : q ≡ q + 0 = omega arith in
      record {
        in_first = λ l. ([], w, refl, subst (λ k. AcceptsFrom a k []) from (stop h), rest.in_second 0 (omega arith));
        in_second = λ p f. absurd (omega arith);
      }

  back : {s : ℕ} {w : List L} → AcceptsFrom m s w → Part s w
  back = AcceptsFrom-least m Part final (λ e w h rest. step e w rest (is.only e h))

  second_final : (q : ℕ) → IsFinal b q → AcceptsFrom m (q + length a.finals) []
  second_final q h =
      let long : length (replicate (length a.finals) false) ≡ length a.finals = length-replicate (length a.finals) false in
      let at : slice_get (replicate (length a.finals) false ++ b.finals) (q + length a.finals) ≡ Some true =
      subst (λ k. slice_get (replicate (length a.finals) false ++ b.finals) (q + k) ≡ Some true) long (slice_get-append_right (replicate (length a.finals) false) b.finals q ∙ h) in
      stop (subst (λ fs. slice_get fs (q + length a.finals) ≡ Some true) (sym is.finals) at)

  in_concat : (u v : List L) → Accepts a u → Accepts b v → Accepts m (u ++ v)
  in_concat u v first second =
      let e : 0 + length a.finals ≡ length a.finals = omega arith in
      let moved : AcceptsFrom m (0 + length a.finals) (v ++ []) = AcceptsFrom-moved b m (length a.finals) [] (λ x c. is.all (shifted (length a.finals) x) (of_second x c)) second_final second in
      let there : AcceptsFrom m (length a.finals) v = subst (λ k. AcceptsFrom m k v) e (subst (λ y. AcceptsFrom m (0 + length a.finals) y) (append-nil v) moved) in
      AcceptsFrom-moved a m 0 v (λ x c. is.all (shifted 0 x) (of_first x c)) (λ q h. skip (is.all (epsilon (q + 0) (length a.finals)) (between q h)) there) first

  pub concat_language : (w : List L) → Accepts m w ↔ IsConcatenation (Accepts a) (Accepts b) w
  concat_language w = (
    λ h. let r = (back h).in_first a_ok.start in (r.0, r.1, r.2, r.3, r.4),
    λ (u, v, e, first, second). subst (λ y. Accepts m y) (sym e) (in_concat u v first second),
  )

  letter_from : (e : Edge L) (x : L) → e.letter ≡ Some x → ConcatEdge a b (length a.finals) e → UsesLetter a x ⊎ UsesLetter b x
  letter_from e x reads (of_first y h) = inl (y, h, reads)
  letter_from e x reads (of_second y h) = inr (y, h, reads)
  letter_from e x reads (between q h) = cc

  pub concat_letters : (x : L) → UsesLetter m x → UsesLetter a x ⊎ UsesLetter b x
  concat_letters x (e, h, reads) = letter_from e x reads (is.only e h)

-- how many states there are
pub concat_states : {L : Type 0} (a b m : Automaton L) → m.finals ≡ replicate (length a.finals) false ++ b.finals → length m.finals ≡ length a.finals + length b.finals
concat_states a b m is =
    let long = length-append (replicate (length a.finals) false) b.finals in
    let front = length-replicate (length a.finals) false in
    let same = ap length is in
    omega arith
