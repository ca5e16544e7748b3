-- The repetition: a new start that is final, an epsilon edge from it to the operand's start, and one back to it from
-- each of the operand's final states.
use Rattle.std.proofs.Common.{◌≡◌, ℕ, ◌+◌, ◌↔◌, List, [], ◌∷◌, ◌++◌, true, false, Some, All, length, set, replicate, refl, subst, sym, ap, inl, inr, arith, ◌∙◌, append_assoc}
use Rattle.std.specs.Option.{option_to_list}
use Rattle.std.specs.List.{Contains, slice_get}
use Rattle.std.proofs.lemmas.List.Elements.{All-nil, All-cons, All-head, All-tail}
use Rattle.word_relations.specs.Words.{IsRepetition, joined}
use Rattle.word_relations.proofs.Members.{Contains-nil_cases}
use Rattle.fsa.specs.Automaton.{Automaton, IsFinal, IsWellFormed, UsesLetter}
use Rattle.fsa.specs.Language.{AcceptsFrom, Accepts, stop, skip}
use Rattle.fsa.specs.declared.automaton.Edge.{Edge}
use Rattle.fsa_rational.specs.Shapes.{Extends, ComesFrom, LeavesFinal, epsilon, shifted}
use Rattle.fsa_rational.proofs.Walks.{AcceptsFrom-least, AcceptsFrom-step, AcceptsFrom-moved, one_final, is_final_set}

pub data StarEdge {L : Type 0} (a : Automaton L) : Edge L → Type 0 where
  of_operand : (e : Edge L) → Contains a.edges e → StarEdge a (shifted 1 e)
  enter : StarEdge a (epsilon 0 1)
  again : (q : ℕ) → IsFinal a q → StarEdge a (epsilon (q + 1) 0)

pub record IsStar {L : Type 0} (a m : Automaton L) : Type 0 where
  pub finals : m.finals ≡ set (replicate (length a.finals) false ++ false ∷ []) 0 true
  pub only : (e : Edge L) → Contains m.edges e → StarEdge a e
  pub all : (e : Edge L) → StarEdge a e → Contains m.edges e

module _ {L : Type 0} (a : Automaton L) (start one two m : Automaton L)
    (none : start.edges ≡ []) (finals : start.finals ≡ set (replicate (length a.finals) false ++ false ∷ []) 0 true)
    (first : Extends start one (ComesFrom (shifted 1) a.edges)) (second : Extends one two (λ e. e ≡ epsilon 0 1))
    (third : Extends two m (LeavesFinal a.finals 1 0)) where
  pub star_shape : IsStar a m
  star_shape = record {
    finals = third.finals ∙ second.finals ∙ first.finals ∙ finals;
    only = λ e h. elim (third.only e h) [
      | inr r ↦ subst (StarEdge a) (sym r.2) (again r.0 r.1)
      | inl h2 ↦ elim (second.only e h2) [
        | inr is ↦ subst (StarEdge a) (sym is) enter
        | inl h1 ↦ elim (first.only e h1) [
          | inr r ↦ subst (StarEdge a) (sym r.2) (of_operand r.0 r.1)
          | inl h0 ↦ absurd (Contains-nil_cases e (subst (λ es. Contains es e) none h0))
        ]
      ]
    ];
    all = made;
  }
    where
      made : (e : Edge L) → StarEdge a e → Contains m.edges e
      made e (of_operand x h) = third.kept e (second.kept e (first.all e (x, h, refl)))
      made e enter = third.kept e (second.all e refl)
      made e (again q h) = third.all e (q, h, refl)

module _ {L : Type 0} (a : Automaton L) (a_ok : IsWellFormed a) (m : Automaton L) (is : IsStar a m) where
  -- what each state of the repetition accepts
  record Part (s : ℕ) (w : List L) : Type 0 where
    at_start : s ≡ 0 → IsRepetition (Accepts a) w
    in_operand : (p : ℕ) → s ≡ p + 1 → (u : List L) × (v : List L) × (w ≡ u ++ v) × AcceptsFrom a p u × IsRepetition (Accepts a) v

  final : (s : ℕ) → IsFinal m s → Part s []
  final s h =
      let first : s ≡ 0 = one_final (length a.finals) 0 s (subst (λ fs. slice_get fs s ≡ Some true) is.finals h) in
      record {
        at_start = λ _. ([], refl, All-nil (Accepts a));
        in_operand = λ p f. absurd (omega arith);
      }

  step : (e : Edge L) (w : List L) → Part e.to w → StarEdge a e → Part e.from (option_to_list e.letter ++ w)
  step e w rest (of_operand x h) = record {
    at_start = λ z. absurd (omega arith);
    in_operand = λ p f.
        let r = rest.in_operand x.to refl in
        let same : x.from ≡ p = omega arith in (
          option_to_list x.letter ++ r.0,
          r.1,
          ap (λ v. option_to_list x.letter ++ v) r.2 ∙ sym (append_assoc (option_to_list x.letter) r.0 r.1),
          subst (λ k. AcceptsFrom a k (option_to_list x.letter ++ r.0)) same (AcceptsFrom-step a x r.0 h r.3),
          r.4,
        );
  }
  step e w rest enter = record {
    at_start = λ _.
        let r = rest.in_operand 0 (omega arith) in
        let words = r.4 in
        (r.0 ∷ words.0, r.2 ∙ ap (λ v. r.0 ++ v) words.1, All-cons (Accepts a) r.0 words.0 r.3 words.2);
    in_operand = λ p f. absurd (omega arith);
  }
  step e w rest (again q h) = record {
    at_start = λ z. absurd (omega arith);
    in_operand = λ p f. let same : q ≡ p = omega arith in ([], w, refl, subst (λ k. AcceptsFrom a k []) same (stop h), rest.at_start refl);
  }

  back : {s : ℕ} {w : List L} → AcceptsFrom m s w → Part s w
  back = AcceptsFrom-least m Part final (λ e w h rest. step e w rest (is.only e h))

  start_final : IsFinal m 0
  start_final = subst (λ fs. slice_get fs 0 ≡ Some true) (sym is.finals) (is_final_set (length a.finals) 0 (omega arith))

  in_star : (words : List (List L)) → All (Accepts a) words → Accepts m (joined words)
  in_star [] all = stop start_final
  in_star (u ∷ words) all =
      let rest : Accepts m (joined words) = in_star words (All-tail (Accepts a) u words all) in
      skip (is.all (epsilon 0 1) enter)
      (AcceptsFrom-moved a m 1 (joined words) (λ x c. is.all (shifted 1 x) (of_operand x c))
      (λ q h. skip (is.all (epsilon (q + 1) 0) (again q h)) rest) (All-head (Accepts a) u words all))

  pub star_language : (w : List L) → Accepts m w ↔ IsRepetition (Accepts a) w
  star_language w = (λ h. (back h).at_start refl, λ (words, e, all). subst (λ y. Accepts m y) (sym e) (in_star words all))

  letter_from : (e : Edge L) (x : L) → e.letter ≡ Some x → StarEdge a e → UsesLetter a x
  letter_from e x reads (of_operand y h) = (y, h, reads)
  letter_from e x reads enter = cc
  letter_from e x reads (again q h) = cc

  pub star_letters : (x : L) → UsesLetter m x → UsesLetter a x
  star_letters x (e, h, reads) = letter_from e x reads (is.only e h)
