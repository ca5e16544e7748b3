-- Which words of marks keep what insertion asks.
use Rattle.std.specs.Prelude.{◌≡◌, ℕ, Bool, false, List, [], ◌∷◌, ◌++◌, Some, slice_get}
use Rattle.fsm_base.specs.declared.letters.Bound.{Bound}
use Rattle.fsm_base.specs.declared.letters.Bound.TheVariants.{Edge, Inner}
use Rattle.fsm_base.specs.declared.letters.Sym.{Sym}
use Rattle.replace_words.specs.declared.marks.Mark.{Mark}
use Rattle.replace_words.specs.declared.marks.Mark.TheVariants.{Copy, Up, Low, Same, Open, Close}
use Rattle.replace_words.specs.Places.{Rules}
use Rattle.replace_words.specs.Marked.{KeepsLeft, KeepsRight, LeftHolds, RightHolds, IsWellMarked}

-- beside such a mark no insertion stands
abbrev pub IsFree : Bound Mark → Type 0
IsFree Edge = Unit {0}
IsFree (Inner (Copy s)) = Unit {0}
IsFree (Inner (Up s)) = ⊥
IsFree (Inner (Low s)) = ⊥
IsFree (Inner (Same s)) = ⊥
IsFree (Inner (Open k)) = ⊥
IsFree (Inner (Close k)) = ⊥

-- no replacement stands directly behind another
abbrev pub NoTwo : List (Bound Mark) → Type 0
NoTwo w = (x : List (Bound Mark)) (j k : ℕ) (y : List (Bound Mark)) → w ≡ x ++ Inner (Close j) ∷ Inner (Open k) ∷ y → ⊥

-- between two free marks the word before isn't in the first set, or the word behind isn't in the second
abbrev pub LeavesNoGap : (List (Bound Mark) → Type 0) → (List (Bound Mark) → Type 0) → List (Bound Mark) → Type 0
LeavesNoGap P Q w =
    (x : List (Bound Mark)) (m n : Bound Mark) (z : List (Bound Mark)) → w ≡ (x ++ m ∷ []) ++ n ∷ z → IsFree m → IsFree n → P (x ++ m ∷ []) → Q (n ∷ z) → ⊥

-- the places insert and do nothing else
pub record InsertsOnly {P : Type 0} (of : Rules P) (p : P) : Type 0 where
  pub replaces : (centre result : List Sym) → of.replaces p centre result → centre ≡ []
  pub surrounds : (before centre after : List Sym) → of.surrounds p before centre after → ⊥
  pub centre : (centre : List Sym) → of.centre p centre → centre ≡ []
  pub any : of.centre p []

module _ {P : Type 0} (of : Rules P) where
  -- what insertion asks at a place: its context holds at each of its insertions, and no place where it holds is left without one, unless
  -- rules are optional
  pub record IsFilledAt (optional : Bool) (k : ℕ) (p : P) (w : List (Bound Mark)) : Type 0 where
    pub left : KeepsLeft (LeftHolds of p) k w
    pub right : KeepsRight (RightHolds of p) k w
    pub gap : optional ≡ false → LeavesNoGap (LeftHolds of p) (RightHolds of p) w

  abbrev pub IsFilledWord : List Sym → List P → Bool → List (Bound Mark) → Type 0
  IsFilledWord syms places optional w = IsWellMarked of syms places w × NoTwo w × ((k : ℕ) (p : P) → slice_get places k ≡ Some p → IsFilledAt optional k p w)
