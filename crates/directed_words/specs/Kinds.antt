-- Kinds of marks.
use Rattle.std.specs.Prelude.{◌≡◌, Bool, true, false, List, ◌∷◌}
use Rattle.fsm_base.specs.declared.letters.Bound.{Bound}
use Rattle.fsm_base.specs.declared.letters.Bound.TheVariants.{Edge, Inner}
use Rattle.replace_words.specs.declared.marks.Mark.{Mark}
use Rattle.replace_words.specs.declared.marks.Mark.TheVariants.{Copy, Up, Low, Same, Open, Close}
use Rattle.directed_words.specs.declared.kinds.MarkKind.{MarkKind}
use Rattle.directed_words.specs.declared.kinds.MarkKind.TheVariants.{Copied, Opening, Closing, NotClosing, Inside, Upper}

-- a symbol that is copied
abbrev pub copies : Bound Mark → Bool
copies Edge = false
copies (Inner (Copy s)) = true
copies (Inner (Up s)) = false
copies (Inner (Low s)) = false
copies (Inner (Same s)) = false
copies (Inner (Open k)) = false
copies (Inner (Close k)) = false

-- a bracket with which a replacement begins
abbrev pub opens : Bound Mark → Bool
opens Edge = false
opens (Inner (Copy s)) = false
opens (Inner (Up s)) = false
opens (Inner (Low s)) = false
opens (Inner (Same s)) = false
opens (Inner (Open k)) = true
opens (Inner (Close k)) = false

-- one with which it ends, and all others
abbrev pub closes : Bound Mark → Bool
closes Edge = false
closes (Inner (Copy s)) = false
closes (Inner (Up s)) = false
closes (Inner (Low s)) = false
closes (Inner (Same s)) = false
closes (Inner (Open k)) = false
closes (Inner (Close k)) = true

abbrev pub goes_on : Bound Mark → Bool
goes_on Edge = true
goes_on (Inner (Copy s)) = true
goes_on (Inner (Up s)) = true
goes_on (Inner (Low s)) = true
goes_on (Inner (Same s)) = true
goes_on (Inner (Open k)) = true
goes_on (Inner (Close k)) = false

-- a symbol of a centre that is replaced
abbrev pub is_inside : Bound Mark → Bool
is_inside Edge = false
is_inside (Inner (Copy s)) = false
is_inside (Inner (Up s)) = true
is_inside (Inner (Low s)) = false
is_inside (Inner (Same s)) = true
is_inside (Inner (Open k)) = false
is_inside (Inner (Close k)) = false

-- a symbol of the upper side
abbrev pub is_upper : Bound Mark → Bool
is_upper Edge = false
is_upper (Inner (Copy s)) = true
is_upper (Inner (Up s)) = true
is_upper (Inner (Low s)) = false
is_upper (Inner (Same s)) = true
is_upper (Inner (Open k)) = false
is_upper (Inner (Close k)) = false

abbrev pub is_of : MarkKind → Bound Mark → Bool
is_of Copied m = copies m
is_of Opening m = opens m
is_of Closing m = closes m
is_of NotClosing m = goes_on m
is_of Inside m = is_inside m
is_of Upper m = is_upper m

-- the first mark is of the kind
abbrev pub BeginsWith : MarkKind → List (Bound Mark) → Type 0
BeginsWith kind w = (m : Bound Mark) × (z : List (Bound Mark)) × (w ≡ m ∷ z) × (is_of kind m ≡ true)
