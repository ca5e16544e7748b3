-- The words of marks of rules, by operations on sets of words.
use Rattle.std.specs.Prelude.{◌≡◌, ◌⊎◌, ℕ, Bool, false, List, [], ◌∷◌, ◌++◌, map, All, Contains, Option, Some, None, slice_get, option_map}
use Rattle.std.specs.List.{flat_map, filter_map}
use Rattle.fsm_base.specs.declared.letters.Bound.{Bound}
use Rattle.fsm_base.specs.declared.letters.Bound.TheVariants.{Edge, Inner}
use Rattle.fsm_base.specs.declared.letters.Sym.{Sym}
use Rattle.regex_ast.specs.declared.expr.Side.{Side}
use Rattle.regex_ast.specs.declared.expr.Side.TheVariants.{UpUp, LowUp, UpLow, LowLow}
use Rattle.replace_words.specs.declared.marks.Mark.{Mark}
use Rattle.replace_words.specs.declared.marks.Mark.TheVariants.{Copy, Up, Low, Same, Open, Close}
use Rattle.replace_words.specs.Claims.{Claim, copied, replaced, marked, At}
use Rattle.replace_words.specs.Places.{Rules}

abbrev pub upper_of : Mark → Option Sym
upper_of (Copy s) = Some s
upper_of (Up s) = Some s
upper_of (Low s) = None
upper_of (Same s) = Some s
upper_of (Open k) = None
upper_of (Close k) = None

abbrev pub lower_of : Mark → Option Sym
lower_of (Copy s) = Some s
lower_of (Up s) = None
lower_of (Low s) = Some s
lower_of (Same s) = Some s
lower_of (Open k) = None
lower_of (Close k) = None

abbrev pub copies : List Sym → List (Bound Mark)
copies w = map (λ s. Inner (Copy s)) w

abbrev pub ups : List Sym → List (Bound Mark)
ups w = map (λ s. Inner (Up s)) w

abbrev pub lows : List Sym → List (Bound Mark)
lows w = map (λ s. Inner (Low s)) w

abbrev pub sames : List Sym → List (Bound Mark)
sames w = map (λ s. Inner (Same s)) w

abbrev pub bracket : ℕ → List (Bound Mark) → List (Bound Mark)
bracket k body = Inner (Open k) ∷ (body ++ Inner (Close k) ∷ [])

abbrev pub encode : Claim → List (Bound Mark)
encode (copied s) = Inner (Copy s) ∷ []
encode (replaced k centre result) = bracket k (ups centre ++ lows result)
encode (marked k before centre after) = bracket k (lows before ++ sames centre ++ lows after)

abbrev pub written : List Claim → List (Bound Mark)
written pieces = Edge ∷ (flat_map encode pieces ++ Edge ∷ [])

abbrev pub side_of : (Mark → Option Sym) → Bound Mark → Option (Bound Sym)
side_of f Edge = Some Edge
side_of f (Inner m) = option_map Inner (f m)

abbrev pub reading : (Mark → Option Sym) → List (Bound Mark) → List (Bound Sym)
reading f w = filter_map (side_of f) w

abbrev pub symbol_of : (Mark → Option Sym) → Bound Mark → Option Sym
symbol_of f Edge = None
symbol_of f (Inner m) = f m

abbrev pub on_left : Side → Mark → Option Sym
on_left UpUp m = upper_of m
on_left LowUp m = lower_of m
on_left UpLow m = upper_of m
on_left LowLow m = lower_of m

abbrev pub on_right : Side → Mark → Option Sym
on_right UpUp m = upper_of m
on_right LowUp m = upper_of m
on_right UpLow m = lower_of m
on_right LowLow m = lower_of m

-- where a replacement by the place of the number begins, the word before is in the set
abbrev pub KeepsLeft : (List (Bound Mark) → Type 0) → ℕ → List (Bound Mark) → Type 0
KeepsLeft P k w = (x y : List (Bound Mark)) → w ≡ x ++ Inner (Open k) ∷ y → P x

-- where one ends, the word behind is in the set
abbrev pub KeepsRight : (List (Bound Mark) → Type 0) → ℕ → List (Bound Mark) → Type 0
KeepsRight P k w = (x y : List (Bound Mark)) → w ≡ x ++ Inner (Close k) ∷ y → P y

-- no centre stands in copied symbols between words of the two sets
abbrev pub LeavesNone : (List Sym → Type 0) → (List (Bound Mark) → Type 0) → (List (Bound Mark) → Type 0) → List (Bound Mark) → Type 0
LeavesNone C P Q w = (x : List (Bound Mark)) (c : List Sym) (z : List (Bound Mark)) → w ≡ x ++ (copies c ++ z) → C c → P x → Q z → ⊥

module _ {P : Type 0} (of : Rules P) where
  -- the marks of a replacement by a place
  abbrev pub IsReplacement : ℕ → P → List (Bound Mark) → Type 0
  IsReplacement k p v =
      ((c : List Sym) × (r : List Sym) × (v ≡ bracket k (ups c ++ lows r)) × of.replaces p c r)
      ⊎ ((b : List Sym) × (c : List Sym) × (a : List Sym) × (v ≡ bracket k (lows b ++ sames c ++ lows a)) × of.surrounds p b c a)

  -- the place's contexts hold of the words of marks before and behind
  abbrev pub LeftHolds : P → List (Bound Mark) → Type 0
  LeftHolds p x = of.left p (reading (on_left (of.side p)) x)

  abbrev pub RightHolds : P → List (Bound Mark) → Type 0
  RightHolds p z = of.right p (reading (on_right (of.side p)) z)

  -- the place's rule is kept: its left context holds before each of its replacements and its right context behind it; and no
  -- centre of it is left in copied symbols where both hold, unless rules are optional
  pub record IsKept (optional : Bool) (k : ℕ) (p : P) (w : List (Bound Mark)) : Type 0 where
    pub left : KeepsLeft (LeftHolds p) k w
    pub right : KeepsRight (RightHolds p) k w
    pub centre : optional ≡ false → LeavesNone (of.centre p) (LeftHolds p) (RightHolds p) w

  module _ (syms : List Sym) (places : List P) where
    -- the mark of a copied symbol, or the marks of a replacement
    abbrev pub IsBlock : List (Bound Mark) → Type 0
    IsBlock v = ((s : Sym) × (v ≡ Inner (Copy s) ∷ []) × Contains syms s) ⊎ ((k : ℕ) × At places k (λ p. IsReplacement k p v))

    -- blocks between edges
    abbrev pub IsWellMarked : List (Bound Mark) → Type 0
    IsWellMarked w = (vs : List (List (Bound Mark))) × (w ≡ Edge ∷ (flat_map (λ v. v) vs ++ Edge ∷ [])) × All IsBlock vs

    -- the marked words of the rules
    abbrev pub IsMarked : Bool → List (Bound Mark) → Type 0
    IsMarked optional w = IsWellMarked w × ((k : ℕ) (p : P) → slice_get places k ≡ Some p → IsKept optional k p w)
