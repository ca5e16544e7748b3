-- The automaton of the words of one letter: its letters lead from the start to a second state, which is final.
use Rattle.std.proofs.Common.{◌≡◌, ℕ, zero, suc, ◌↔◌, List, [], ◌∷◌, ◌++◌, true, false, Some, None, length, set, refl, subst, sym, ap, inl, inr, arith, ◌∙◌}
use Rattle.std.specs.List.{Contains, slice_get}
use Rattle.std.proofs.lemmas.Option.{same_Some}
use Rattle.word_relations.proofs.Members.{Contains-nil_cases}
use Rattle.fsa.specs.Automaton.{Automaton, UsesLetter}
use Rattle.fsa.specs.Language.{AcceptsFrom, Accepts, stop, read, skip}
use Rattle.fsa.specs.declared.automaton.Edge.{Edge}
use Rattle.fsa_rational.specs.Shapes.{Extends, ComesFrom}
use Rattle.word_relations.specs.Operations.{IsOneLetter}

abbrev pub letter_edge : {L : Type 0} → ℕ → L → Edge L
letter_edge to x = record { from = 0; letter = Some x; to = to }

pub record ReadsOne {L : Type 0} (letters : List L) (m : Automaton L) : Type 0 where
  pub finals : m.finals ≡ false ∷ true ∷ []
  pub only : (e : Edge L) → Contains m.edges e → ComesFrom (letter_edge 1) letters e
  pub all : (x : L) → Contains letters x → Contains m.edges (letter_edge 1 x)

pub one_letter_shape : {L : Type 0} (letters : List L) (start two made m : Automaton L) (end : ℕ) → start ≡ record { edges = []; finals = false ∷ [] } → end ≡ length start.finals → two ≡ record start { finals = start.finals ++ false ∷ [] } → made ≡ record two { finals = set two.finals end true } → Extends made m (ComesFrom (letter_edge end) letters) → ReadsOne letters m
one_letter_shape {L} letters start two made m end first number second third adds =
    let one : end ≡ 1 = number ∙ ap (λ s. length s.finals) first in
    let two_is : two.finals ≡ false ∷ false ∷ [] = ap (λ s. s.finals) second ∙ ap (λ s. s.finals ++ false ∷ []) first in
    let made_is : made.finals ≡ false ∷ true ∷ [] = ap (λ s. s.finals) third ∙ ap (λ fs. set fs end true) two_is ∙ ap (λ k. set (false ∷ false ∷ []) k true) one in
    let none : made.edges ≡ [] = ap (λ s. s.edges) third ∙ ap (λ s. s.edges) second ∙ ap (λ s. s.edges) first in
    let added : Extends made m (ComesFrom (letter_edge 1) letters) = subst (λ k. Extends made m (ComesFrom (letter_edge k) letters)) one adds in
    record {
      finals = added.finals ∙ made_is;
      only = λ e h. elim (added.only e h) [
        | inl held ↦ absurd (Contains-nil_cases e (subst (λ es. Contains es e) none held))
        | inr r ↦ r
      ];
      all = λ x held. added.all (letter_edge 1 x) (x, held, refl);
    }

module _ {L : Type 0} (letters : List L) (m : Automaton L) (shape : ReadsOne letters m) where
  pub one_letter_letters : (x : L) → UsesLetter m x → Contains letters x
  one_letter_letters x (e, held, is) =
      let r = shape.only e held in
      let same : r.0 ≡ x = same_Some r.0 x (sym (ap (λ (y : Edge L). y.letter) r.2) ∙ is) in
      subst (Contains letters) same r.1

  zero_not_one : suc zero ≡ zero → ⊥
  zero_not_one e = omega (arith, e)

  -- the second state is the end
  from_end : {w : List L} → AcceptsFrom m 1 w → w ≡ []
  from_end (stop h) = refl
  from_end (read {q = q} {x = x} c rest) =
      let r = shape.only (record { from = 1; letter = Some x; to = q }) c in
      absurd (zero_not_one (ap (λ (y : Edge L). y.from) r.2))
  from_end (skip {q = q} c rest) =
      let r = shape.only (record { from = 1; letter = None; to = q }) c in
      absurd (zero_not_one (ap (λ (y : Edge L). y.from) r.2))

  down : {w : List L} → Accepts m w → IsOneLetter letters w
  down (stop h) =
      let clash : Some false ≡ Some true = sym (ap (λ fs. slice_get fs 0) shape.finals) ∙ h in absurd (cc)
  down (read {q = q} {x = x} {w = w} c rest) =
      let r = shape.only (record { from = 0; letter = Some x; to = q }) c in
      let to : q ≡ 1 = ap (λ (y : Edge L). y.to) r.2 in
      let same : r.0 ≡ x = same_Some r.0 x (sym (ap (λ (y : Edge L). y.letter) r.2)) in
      (x, subst (Contains letters) same r.1, ap (λ v. x ∷ v) (from_end (subst (λ k. AcceptsFrom m k w) to rest)))
  down (skip {q = q} c rest) =
      let r = shape.only (record { from = 0; letter = None; to = q }) c in
      let clash : None ≡ Some r.0 = ap (λ (y : Edge L). y.letter) r.2 in absurd (cc)

  up : (w : List L) → IsOneLetter letters w → Accepts m w
  up w (x, held, is) = subst (Accepts m) (sym is) (read (shape.all x held) (stop (ap (λ fs. slice_get fs 1) shape.finals)))

  pub one_letter_language : (w : List L) → Accepts m w ↔ IsOneLetter letters w
  one_letter_language w = (down, up w)
