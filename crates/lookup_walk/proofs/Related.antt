-- Words that a network over an alphabet relates are of the alphabet.
use Rattle.std.proofs.Common.{◌≡◌, ℕ, ◌⊎◌, List, [], ◌∷◌, ◌++◌, Bool, true, false, cond, refl, sym, subst, inl, inr}
use Rattle.std.specs.List.{Contains}
use Rattle.std.proofs.lemmas.List.Elements.{Contains-append_cases}
use Rattle.word_relations.proofs.Members.{Contains-nil_cases, Contains-cons_cases, Contains-head, Contains-tail}
use Rattle.fsm_base.specs.Alphabet.{symbols_of}
use Rattle.fsm_base.specs.declared.letters.Sym.{Sym}
use Rattle.fst_algebra.proofs.Used.{upper_used, lower_used}
use Rattle.fst_flagged.specs.Conditions.{is_letter, letter_at, letters_of}
use Rattle.lookup_walk.specs.Answering.{IsOverAlphabet}
use Rattle.lookup_walk.specs.Nets.{NetView, plain, flagged, NetRelates}
use Rattle.lookup_walk.proofs.Directions.{below_first}

letter_from : (y s : Sym) → Contains (letter_at y) s → (y ≡ s) × (is_letter y ≡ true)
letter_from y s = by (is_letter y) refl
  where
    by : (b : Bool) → is_letter y ≡ b → Contains (cond b (y ∷ []) []) s → (y ≡ s) × (is_letter y ≡ true)
    by true is held = elim (Contains-cons_cases y [] s held) [ inl same ↦ (same, is) | inr none ↦ absurd (Contains-nil_cases s none) ]
    by false is held = absurd (Contains-nil_cases s held)

-- what is left of a word without its conditions stands in it, and is no condition
letter_in : (x : List Sym) (s : Sym) → Contains (letters_of x) s → Contains x s × (is_letter s ≡ true)
letter_in [] s held = absurd (Contains-nil_cases s held)
letter_in (y ∷ x) s held = elim (Contains-append_cases (letter_at y) (letters_of x) s held) [
  | inl here ↦ let r = letter_from y s here in subst (λ z. Contains (y ∷ x) z × (is_letter z ≡ true)) r.0 (Contains-head y x, r.1)
  | inr behind ↦ let r = letter_in x s behind in (Contains-tail y x s r.0, r.1)
]

pub symbols_above : (alphabet : List (Sym × List ℕ)) (net : NetView) → IsOverAlphabet alphabet net → (u w : List Sym) → NetRelates net u w → (s : Sym) → Contains u s → Contains (symbols_of alphabet) s
symbols_above alphabet (plain m) over u w related s among = let used = upper_used m u w related s among in over used.0 s used.1 (inl used.2)
symbols_above alphabet (flagged f) over u w (x, related, hold, is) s among =
    let here = letter_in x s (subst (λ v. Contains v s) (sym is) among) in
    over.upper s (upper_used f.net x w related s here.0) (below_first s here.1)

pub symbols_below : (alphabet : List (Sym × List ℕ)) (net : NetView) → IsOverAlphabet alphabet net → (u w : List Sym) → NetRelates net u w → (s : Sym) → Contains w s → Contains (symbols_of alphabet) s
symbols_below alphabet (plain m) over u w related s among = let used = lower_used m u w related s among in over used.0 s used.1 (inr used.2)
symbols_below alphabet (flagged f) over u w (x, related, hold, is) s among = over.lower s (lower_used f.net x w related s among)
