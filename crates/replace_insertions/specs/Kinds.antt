-- Kinds of marks, and words of a language that end or begin with one.
use Rattle.std.specs.Prelude.{◌≡◌, Bool, true, false, List, [], ◌∷◌, ◌++◌}
use Rattle.fsm_base.specs.declared.letters.Bound.{Bound}
use Rattle.fsm_base.specs.declared.letters.Bound.TheVariants.{Edge, Inner}
use Rattle.replace_words.specs.declared.marks.Mark.{Mark}
use Rattle.replace_words.specs.declared.marks.Mark.TheVariants.{Copy, Up, Low, Same, Open, Close}
use Rattle.replace_insertions.specs.declared.kinds.MarkKind.{MarkKind}
use Rattle.replace_insertions.specs.declared.kinds.MarkKind.TheVariants.{Free, Opening, Closing}

-- the edge of the word, or a symbol that is copied
abbrev pub is_free : Bound Mark → Bool
is_free Edge = true
is_free (Inner (Copy s)) = true
is_free (Inner (Up s)) = false
is_free (Inner (Low s)) = false
is_free (Inner (Same s)) = false
is_free (Inner (Open k)) = false
is_free (Inner (Close k)) = false

-- a bracket with which a replacement begins
abbrev pub opens : Bound Mark → Bool
opens Edge = false
opens (Inner (Copy s)) = false
opens (Inner (Up s)) = false
opens (Inner (Low s)) = false
opens (Inner (Same s)) = false
opens (Inner (Open k)) = true
opens (Inner (Close k)) = false

-- one with which it ends
abbrev pub closes : Bound Mark → Bool
closes Edge = false
closes (Inner (Copy s)) = false
closes (Inner (Up s)) = false
closes (Inner (Low s)) = false
closes (Inner (Same s)) = false
closes (Inner (Open k)) = false
closes (Inner (Close k)) = true

abbrev pub is_of : MarkKind → Bound Mark → Bool
is_of Free m = is_free m
is_of Opening m = opens m
is_of Closing m = closes m

abbrev pub EndsIn : MarkKind → List (Bound Mark) → Type 0
EndsIn kind w = (x : List (Bound Mark)) × (m : Bound Mark) × (w ≡ x ++ m ∷ []) × (is_of kind m ≡ true)

abbrev pub BeginsWith : MarkKind → List (Bound Mark) → Type 0
BeginsWith kind w = (m : Bound Mark) × (z : List (Bound Mark)) × (w ≡ m ∷ z) × (is_of kind m ≡ true)

-- no word of the first set stands before one of the second
abbrev pub MeetsNowhere : (List (Bound Mark) → Type 0) → (List (Bound Mark) → Type 0) → List (Bound Mark) → Type 0
MeetsNowhere P Q w = (x y : List (Bound Mark)) → w ≡ x ++ y → P x → Q y → ⊥
