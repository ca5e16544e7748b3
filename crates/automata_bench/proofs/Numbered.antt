-- Letters whose numbers are their places are distinct, and stay so where the next number is added.
use Rattle.std.proofs.Common.{◌≡◌, ℕ, ◌+◌, List, [], ◌∷◌, ◌++◌, length, Some, sym, ap, ◌∙◌, inl, inr, slice_get, arith, zero, suc}
use Rattle.word_relations.specs.Words.{IsDistinct}
use Rattle.word_relations.proofs.Places.{slice_get-append_cases}
use Rattle.fsm_base.specs.declared.letters.Sym.{Sym}

abbrev pub AreNumbered : List Sym → Type 0
AreNumbered letters = (place : ℕ) (x : Sym) → slice_get letters place ≡ Some x → x.0 ≡ place

pub numbered_distinct : (letters : List Sym) → AreNumbered letters → IsDistinct letters
numbered_distinct letters numbered i j x at_i at_j = sym (numbered i x at_i) ∙ numbered j x at_j

pub numbered_more : (letters : List Sym) (next : Sym) → AreNumbered letters → next.0 ≡ length letters → AreNumbered (letters ++ next ∷ [])
numbered_more letters next numbered number place x at =
    elim (slice_get-append_cases letters (next ∷ []) place x at) as (λ _. x.0 ≡ place) [
      | inl front ↦ numbered place x front
      | inr last ↦ last_at last.0 last.1 last.2
    ]
  where
    last_at : (j : ℕ) → place ≡ j + length letters → slice_get (next ∷ []) j ≡ Some x → x.0 ≡ place
    last_at zero e is = let same : next ≡ x = cc in omega (arith, ap (λ (s : Sym). s.0) same, e, number)
    last_at (suc j) e is = cc
