-- The reversal: each edge in the other direction, a new start from which epsilon edges lead to the final states, and
-- the old start as the only final state.
use Rattle.std.proofs.Common.{◌≡◌, ℕ, ◌+◌, ◌↔◌, List, [], ◌∷◌, ◌++◌, reverse, true, false, Option, Some, None, length, set, replicate, refl, subst, sym, ap, inl, inr, arith, ◌∙◌, append_assoc}
use Rattle.std.specs.Option.{option_to_list}
use Rattle.std.specs.List.{Contains, slice_get}
use Rattle.std.proofs.lemmas.List.{append-nil, reverse-append, reverse-reverse}
use Rattle.word_relations.proofs.Members.{Contains-nil_cases}
use Rattle.fsa.specs.Automaton.{Automaton, IsFinal, IsWellFormed, UsesLetter}
use Rattle.fsa.specs.Language.{AcceptsFrom, Accepts, stop, read, skip}
use Rattle.fsa.specs.declared.automaton.Edge.{Edge}
use Rattle.fsa_rational.specs.Shapes.{Extends, ComesFrom, EntersFinal, epsilon, reversed_by}
use Rattle.fsa_rational.proofs.Walks.{AcceptsFrom-least, AcceptsFrom-step, one_final, is_final_set}

pub data ReverseEdge {L : Type 0} (a : Automaton L) : Edge L → Type 0 where
  of_operand : (e : Edge L) → Contains a.edges e → ReverseEdge a (reversed_by 1 e)
  enter : (q : ℕ) → IsFinal a q → ReverseEdge a (epsilon 0 (q + 1))

pub record IsReverse {L : Type 0} (a m : Automaton L) : Type 0 where
  pub finals : m.finals ≡ set (replicate (length a.finals) false ++ false ∷ []) 1 true
  pub only : (e : Edge L) → Contains m.edges e → ReverseEdge a e
  pub all : (e : Edge L) → ReverseEdge a e → Contains m.edges e

module _ {L : Type 0} (a : Automaton L) (start one m : Automaton L)
    (none : start.edges ≡ []) (finals : start.finals ≡ set (replicate (length a.finals) false ++ false ∷ []) 1 true)
    (first : Extends start one (ComesFrom (reversed_by 1) a.edges)) (second : Extends one m (EntersFinal 0 a.finals 1)) where
  pub reverse_shape : IsReverse a m
  reverse_shape = record {
    finals = second.finals ∙ first.finals ∙ finals;
    only = λ e h. elim (second.only e h) [
      | inr r ↦ subst (ReverseEdge a) (sym r.2) (enter r.0 r.1)
      | inl h1 ↦ elim (first.only e h1) [
        | inr r ↦ subst (ReverseEdge a) (sym r.2) (of_operand r.0 r.1)
        | inl h0 ↦ absurd (Contains-nil_cases e (subst (λ es. Contains es e) none h0))
      ]
    ];
    all = made;
  }
    where
      made : (e : Edge L) → ReverseEdge a e → Contains m.edges e
      made e (of_operand x h) = second.kept e (first.all e (x, h, refl))
      made e (enter q h) = second.all e (q, h, refl)

-- a letter goes from the front of one word to the front of what follows its reversal
reverse_letter : {L : Type 0} (letter : Option L) (w v : List L) → reverse w ++ (option_to_list letter ++ v) ≡ reverse (option_to_list letter ++ w) ++ v
reverse_letter (Some x) w v = sym (append_assoc (reverse w) (x ∷ []) v) ∙ ap (λ y. y ++ v) (sym (reverse-append (x ∷ []) w))
reverse_letter None w v = refl

module _ {L : Type 0} (a : Automaton L) (a_ok : IsWellFormed a) (m : Automaton L) (is : IsReverse a m) where
  -- what each state of the reversal accepts: what leads to it, backwards
  record Part (s : ℕ) (w : List L) : Type 0 where
    at_start : s ≡ 0 → Accepts a (reverse w)
    at_state : (p : ℕ) → s ≡ p + 1 → (v : List L) → AcceptsFrom a p v → Accepts a (reverse w ++ v)

  final : (s : ℕ) → IsFinal m s → Part s []
  final s h =
      let first : s ≡ 1 = one_final (length a.finals) 1 s (subst (λ fs. slice_get fs s ≡ Some true) is.finals h) in
      record {
        at_start = λ z. absurd (omega arith);
        at_state = λ p f v rest. let same : p ≡ 0 = omega arith in subst (λ k. AcceptsFrom a k v) same rest;
      }

  step : (e : Edge L) (w : List L) → Part e.to w → ReverseEdge a e → Part e.from (option_to_list e.letter ++ w)
  step e w rest (of_operand x h) = record {
    at_start = λ z. absurd (omega arith);
    at_state = λ p f v from_p.
        let same : p ≡ x.to = omega arith in
        let longer = AcceptsFrom-step a x v h (subst (λ k. AcceptsFrom a k v) same from_p) in
        subst (λ y. Accepts a y) (reverse_letter x.letter w v) (rest.at_state x.from refl (option_to_list x.letter ++ v) longer);
  }
  step e w rest (enter q h) = record {
    at_start = λ _. subst (λ y. Accepts a y) (append-nil (reverse w)) (rest.at_state q refl [] (stop h));
    at_state = λ p f v from_p. absurd (omega arith);
  }

  back : {s : ℕ} {w : List L} → AcceptsFrom m s w → Part s w
  back = AcceptsFrom-least m Part final (λ e w h rest. step e w rest (is.only e h))

  start_final : IsFinal m 1
  start_final = let s = a_ok.start in subst (λ fs. slice_get fs 1 ≡ Some true) (sym is.finals) (is_final_set (length a.finals) 1 (omega arith))

  turn : {p : ℕ} {w : List L} (after : List L) → AcceptsFrom a p w → AcceptsFrom m (p + 1) after → Accepts m (reverse w ++ after)
  turn {p} after (stop h) rest = skip (is.all (epsilon 0 (p + 1)) (enter p h)) rest
  turn {p} after (read {q = q} {x = x} {w = w} h more) rest =
      let e : Edge L = record { from = p; letter = Some x; to = q } in
      subst (λ y. Accepts m y) (reverse_letter (Some x) w after) (turn (x ∷ after) more (read (is.all (reversed_by 1 e) (of_operand e h)) rest))
  turn {p} after (skip {q = q} h more) rest =
      let e : Edge L = record { from = p; letter = None; to = q } in
      turn after more (skip (is.all (reversed_by 1 e) (of_operand e h)) rest)

  pub reverse_language : (w : List L) → Accepts m w ↔ Accepts a (reverse w)
  reverse_language w = (
    λ h. (back h).at_start refl,
    λ h. subst (λ y. Accepts m y) (append-nil (reverse (reverse w)) ∙ reverse-reverse w) (turn [] h (stop start_final)),
  )

  letter_from : (e : Edge L) (x : L) → e.letter ≡ Some x → ReverseEdge a e → UsesLetter a x
  letter_from e x reads (of_operand y h) = (y, h, reads)
  letter_from e x reads (enter q h) = cc

  pub reverse_letters : (x : L) → UsesLetter m x → UsesLetter a x
  reverse_letters x (e, h, reads) = letter_from e x reads (is.only e h)
