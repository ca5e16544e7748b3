-- The union: a new start, from which an epsilon edge leads to the start of each operand.
use Rattle.std.proofs.Common.{◌≡◌, ℕ, zero, suc, ◌+◌, ◌<◌, ◌⊎◌, ◌↔◌, List, [], ◌∷◌, ◌++◌, true, false, Some, length, refl, subst, sym, ap, inl, inr, arith, ◌∙◌}
use Rattle.std.specs.Option.{option_to_list}
use Rattle.std.specs.List.{Contains, slice_get}
use Rattle.std.proofs.lemmas.List.{append-nil, length-append}
use Rattle.std.proofs.lemmas.Option.{slice_get_within}
use Rattle.word_relations.proofs.Members.{Contains-nil_cases}
use Rattle.word_relations.proofs.Places.{slice_get-append_cases, slice_get-append_left, slice_get-append_right}
use Rattle.fsa.specs.Automaton.{Automaton, IsFinal, IsWellFormed, UsesLetter}
use Rattle.fsa.specs.Language.{AcceptsFrom, Accepts, stop, skip}
use Rattle.fsa.specs.declared.automaton.Edge.{Edge}
use Rattle.fsa_rational.specs.Shapes.{Extends, ComesFrom, epsilon, shifted}
use Rattle.fsa_rational.proofs.Walks.{AcceptsFrom-least, AcceptsFrom-step, AcceptsFrom-moved}

-- the edges of the union, the second operand's states being raised by n
pub data UnionEdge {L : Type 0} (a b : Automaton L) (n : ℕ) : Edge L → Type 0 where
  of_first : (e : Edge L) → Contains a.edges e → UnionEdge a b n (shifted 1 e)
  of_second : (e : Edge L) → Contains b.edges e → UnionEdge a b n (shifted n e)
  to_first : UnionEdge a b n (epsilon 0 1)
  to_second : UnionEdge a b n (epsilon 0 n)

pub record IsUnion {L : Type 0} (a b : Automaton L) (n : ℕ) (m : Automaton L) : Type 0 where
  pub raised : n ≡ length a.finals + 1
  pub finals : m.finals ≡ (false ∷ a.finals) ++ b.finals
  pub only : (e : Edge L) → Contains m.edges e → UnionEdge a b n e
  pub all : (e : Edge L) → UnionEdge a b n e → Contains m.edges e

module _ {L : Type 0} (a b : Automaton L) (n : ℕ) (raised : n ≡ length a.finals + 1) (start one two three m : Automaton L)
    (none : start.edges ≡ []) (finals : start.finals ≡ (false ∷ a.finals) ++ b.finals)
    (first : Extends start one (ComesFrom (shifted 1) a.edges)) (second : Extends one two (ComesFrom (shifted n) b.edges))
    (third : Extends two three (λ e. e ≡ epsilon 0 1)) (fourth : Extends three m (λ e. e ≡ epsilon 0 n)) where
  pub union_shape : IsUnion a b n m
  union_shape = record {
    raised = raised;
    finals = fourth.finals ∙ third.finals ∙ second.finals ∙ first.finals ∙ finals;
    only = λ e h. elim (fourth.only e h) [
      | inr is ↦ subst (UnionEdge a b n) (sym is) to_second
      | inl h3 ↦ elim (third.only e h3) [
        | inr is ↦ subst (UnionEdge a b n) (sym is) to_first
        | inl h2 ↦ elim (second.only e h2) [
          | inr r ↦ subst (UnionEdge a b n) (sym r.2) (of_second r.0 r.1)
          | inl h1 ↦ elim (first.only e h1) [
            | inr r ↦ subst (UnionEdge a b n) (sym r.2) (of_first r.0 r.1)
            | inl h0 ↦ absurd (Contains-nil_cases e (subst (λ es. Contains es e) none h0))
          ]
        ]
      ]
    ];
    all = made;
  }
    where
      made : (e : Edge L) → UnionEdge a b n e → Contains m.edges e
      made e (of_first x h) = fourth.kept e (third.kept e (second.kept e (first.all e (x, h, refl))))
      made e (of_second x h) = fourth.kept e (third.kept e (second.all e (x, h, refl)))
      made e to_first = fourth.kept e (third.all e refl)
      made e to_second = fourth.all e refl

module _ {L : Type 0} (a b : Automaton L) (a_ok : IsWellFormed a) (b_ok : IsWellFormed b) (n : ℕ) (m : Automaton L) (is : IsUnion a b n m) where
  -- what each state of the union accepts
  record Part (s : ℕ) (w : List L) : Type 0 where
    at_start : s ≡ 0 → Accepts a w ⊎ Accepts b w
    in_first : (p : ℕ) → s ≡ p + 1 → p < length a.finals → AcceptsFrom a p w
    in_second : (p : ℕ) → s ≡ p + n → AcceptsFrom b p w

  final_first : (p s : ℕ) → IsFinal a p → s ≡ p + 1 → Part s []
  final_first p s final e =
      let within : p < length a.finals = slice_get_within a.finals p true final in
      let raised : n ≡ length a.finals + 1 = is.raised in
      record {
        at_start = λ z. absurd (omega arith);
        in_first = λ q f _. let same : p ≡ q = omega arith in subst (λ k. AcceptsFrom a k []) same (stop final);
        in_second = λ q f. absurd (omega arith);
      }

  final_second : (p s : ℕ) → IsFinal b p → s ≡ p + n → Part s []
  final_second p s final e =
      let raised : n ≡ length a.finals + 1 = is.raised in
      record {
        at_start = λ z. absurd (omega arith);
        in_first = λ q f l. absurd (omega arith);
        in_second = λ q f. let same : p ≡ q = omega arith in subst (λ k. AcceptsFrom b k []) same (stop final);
      }

  final : (s : ℕ) → IsFinal m s → Part s []
  final s h =
      let raised : n ≡ length a.finals + 1 = is.raised in
      let at : slice_get ((false ∷ a.finals) ++ b.finals) s ≡ Some true = subst (λ fs. slice_get fs s ≡ Some true) is.finals h in
      elim (slice_get-append_cases (false ∷ a.finals) b.finals s true at) [
        | inl front ↦ at_front s front
        | inr r ↦ final_second r.0 s r.2 (let e : s ≡ r.0 + length (false ∷ a.finals) = r.1 in let l : length (false ∷ a.finals) ≡ suc (length a.finals) = refl in omega arith)
      ]
    where
      at_front : (k : ℕ) → slice_get (false ∷ a.finals) k ≡ Some true → Part k []
      at_front zero f = cc
      at_front (suc p) f = final_first p (suc p) f (omega arith)

  step : (e : Edge L) (w : List L) → Part e.to w → UnionEdge a b n e → Part e.from (option_to_list e.letter ++ w)
  step e w rest (of_first x h) =
      let ends = a_ok.within x h in
      let raised : n ≡ length a.finals + 1 = is.raised in
      record {
        at_start = λ z. absurd (omega arith);
        in_first = λ q f _. let same : x.from ≡ q = omega arith in
            subst (λ k. AcceptsFrom a k (option_to_list x.letter ++ w)) same (AcceptsFrom-step a x w h (rest.in_first x.to refl ends.1));
        in_second = λ q f. absurd (omega arith);
      }
  step e w rest (of_second x h) =
      let raised : n ≡ length a.finals + 1 = is.raised in
      record {
        at_start = λ z. absurd (omega arith);
        in_first = λ q f l. absurd (omega arith);
        in_second = λ q f. let same : x.from ≡ q = omega arith in
            subst (λ k. AcceptsFrom b k (option_to_list x.letter ++ w)) same (AcceptsFrom-step b x w h (rest.in_second x.to refl));
      }
  step e w rest to_first =
      let raised : n ≡ length a.finals + 1 = is.raised in
      record {
        at_start = λ _. inl (rest.in_first 0 (omega arith) a_ok.start);
        in_first = λ q f _. absurd (omega arith);
        in_second = λ q f. absurd (omega arith);
      }
  step e w rest to_second =
      let raised : n ≡ length a.finals + 1 = is.raised in
      record {
        at_start = λ _. inr (rest.in_second 0 (omega arith));
        in_first = λ q f _. absurd (omega arith);
        in_second = λ q f. absurd (omega arith);
      }

  back : {s : ℕ} {w : List L} → AcceptsFrom m s w → Part s w
  back = AcceptsFrom-least m Part final (λ e w h rest. step e w rest (is.only e h))

  first_final : (q : ℕ) → IsFinal a q → AcceptsFrom m (q + 1) []
  first_final q h =
      let e : q + 1 ≡ suc q = omega arith in
      let at : slice_get ((false ∷ a.finals) ++ b.finals) (suc q) ≡ Some true =
      slice_get-append_left (false ∷ a.finals) b.finals (suc q) (let l = slice_get_within a.finals q true h in let k : length (false ∷ a.finals) ≡ suc (length a.finals) = refl in omega arith) ∙ h in
      stop (subst (λ k. slice_get m.finals k ≡ Some true) (sym e) (subst (λ fs. slice_get fs (suc q) ≡ Some true) (sym is.finals) at))

  second_final : (q : ℕ) → IsFinal b q → AcceptsFrom m (q + n) []
  second_final q h =
      let e : q + n ≡ q + length (false ∷ a.finals) = let raised : n ≡ length a.finals + 1 = is.raised in let k : length (false ∷ a.finals) ≡ suc (length a.finals) = refl in omega arith in
      let at : slice_get ((false ∷ a.finals) ++ b.finals) (q + n) ≡ Some true = ap (slice_get ((false ∷ a.finals) ++ b.finals)) e ∙ slice_get-append_right (false ∷ a.finals) b.finals q ∙ h in
      stop (subst (λ fs. slice_get fs (q + n) ≡ Some true) (sym is.finals) at)

  in_union : (w : List L) → Accepts a w ⊎ Accepts b w → Accepts m w
  in_union w (inl h) =
      skip (is.all (epsilon 0 1) to_first)
      (subst (λ v. AcceptsFrom m 1 v) (append-nil w) (AcceptsFrom-moved a m 1 [] (λ e c. is.all (shifted 1 e) (of_first e c)) first_final h))
  in_union w (inr h) =
      let e : 0 + n ≡ n = omega arith in
      skip (is.all (epsilon 0 n) to_second)
      (subst (λ k. AcceptsFrom m k w) e
      (subst (λ v. AcceptsFrom m (0 + n) v) (append-nil w) (AcceptsFrom-moved b m n [] (λ x c. is.all (shifted n x) (of_second x c)) second_final h)))

  pub union_language : (w : List L) → Accepts m w ↔ (Accepts a w ⊎ Accepts b w)
  union_language w = (λ h. (back h).at_start refl, in_union w)

  letter_from : (e : Edge L) (x : L) → e.letter ≡ Some x → UnionEdge a b n e → UsesLetter a x ⊎ UsesLetter b x
  letter_from e x reads (of_first y h) = inl (y, h, reads)
  letter_from e x reads (of_second y h) = inr (y, h, reads)
  letter_from e x reads to_first = cc
  letter_from e x reads to_second = cc

  pub union_letters : (x : L) → UsesLetter m x → UsesLetter a x ⊎ UsesLetter b x
  union_letters x (e, h, reads) = letter_from e x reads (is.only e h)

-- how many states there are
pub union_states : {L : Type 0} (a b m : Automaton L) → m.finals ≡ (false ∷ a.finals) ++ b.finals → length m.finals ≡ (length a.finals + 1) + length b.finals
union_states a b m is =
    let long = length-append (false ∷ a.finals) b.finals in
    let front : length (false ∷ a.finals) ≡ suc (length a.finals) = refl in
    let same = ap length is in
    omega arith
