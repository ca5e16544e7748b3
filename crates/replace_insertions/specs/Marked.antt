-- Words of marks (replace_words) of insertions. Each context is a place.
use Rattle.std.specs.Prelude.{◌≡◌, ◌⊎◌, ◌<◌, ℕ, Bool, false, List, [], ◌∷◌, ◌++◌, All, Contains, Some, slice_get}
use Rattle.std.specs.List.{flat_map}
use Rattle.fsm_base.specs.declared.letters.Bound.{Bound}
use Rattle.fsm_base.specs.declared.letters.Bound.TheVariants.{Edge, Inner}
use Rattle.fsm_base.specs.declared.letters.Sym.{Sym}
use Rattle.fsa.specs.Complete.{Complete, Accepts}
use Rattle.regex_ast.specs.declared.expr.Side.{Side}
use Rattle.expr_meaning.specs.Operators.{HasPrefix, HasSuffix}
use Rattle.replace_words.specs.declared.marks.Mark.{Mark}
use Rattle.replace_words.specs.declared.marks.Mark.TheVariants.{Copy}
use Rattle.replace_words.specs.Filled.{LeavesNoGap, NoTwo}
use Rattle.replace_words.specs.Marked.{KeepsLeft, KeepsRight, bracket, lows, on_left, on_right, reading}
use Rattle.replace_words.specs.Places.{Rules}
use Rattle.replace_rules.specs.declared.rules.LangContext.{LangContext}

-- contexts as places of rules that put words in the place of the empty word and do nothing else
abbrev pub inserting : Complete Sym → Side → Rules LangContext
inserting words side = record {
  centre = λ p c. c ≡ [];
  replaces = λ p c r. (c ≡ []) × Accepts words r;
  surrounds = λ p b c a. ⊥;
  side = λ p. side;
  left = λ p x. HasSuffix (Accepts p.left) x;
  right = λ p z. HasPrefix (Accepts p.right) z;
}

-- the context's left part holds behind the word of marks, and its right part before it
abbrev pub LeftAt : Side → LangContext → List (Bound Mark) → Type 0
LeftAt side p x = HasSuffix (Accepts p.left) (reading (on_left side) x)

abbrev pub RightAt : Side → LangContext → List (Bound Mark) → Type 0
RightAt side p z = HasPrefix (Accepts p.right) (reading (on_right side) z)

-- each insertion by the place of the number stands behind a word of the first set and before one of the second; and no place that does
-- is left without an insertion, unless they are optional
abbrev pub IsBetween : (List (Bound Mark) → Type 0) → (List (Bound Mark) → Type 0) → ℕ → List (Bound Mark) → Type 0
IsBetween P Q k w = KeepsLeft P k w × KeepsRight Q k w

abbrev pub IsAskedAt : Side → Bool → ℕ → LangContext → List (Bound Mark) → Type 0
IsAskedAt side optional k p w = IsBetween (LeftAt side p) (RightAt side p) k w × (optional ≡ false → LeavesNoGap (LeftAt side p) (RightAt side p) w)

-- what insertions ask of words of marks
abbrev pub AreAskedIn : Side → Bool → List LangContext → List (Bound Mark) → Type 0
AreAskedIn side optional contexts w = NoTwo w × ((k : ℕ) (p : LangContext) → slice_get contexts k ≡ Some p → IsAskedAt side optional k p w)

-- a word of the language between the brackets of a number
abbrev pub IsInsertion : Complete Sym → ℕ → List (Bound Mark) → Type 0
IsInsertion words k v = (r : List Sym) × (v ≡ bracket k (lows r)) × Accepts words r

-- a symbol that is copied, or an insertion by one of so many places
abbrev pub IsBlockOf : List Sym → Complete Sym → ℕ → List (Bound Mark) → Type 0
IsBlockOf symbols words places v = ((s : Sym) × (v ≡ Inner (Copy s) ∷ []) × Contains symbols s) ⊎ ((k : ℕ) × (k < places) × IsInsertion words k v)

-- such blocks between edges
abbrev pub AreBlocksOf : List Sym → Complete Sym → ℕ → List (Bound Mark) → Type 0
AreBlocksOf symbols words places w = (vs : List (List (Bound Mark))) × (w ≡ Edge ∷ (flat_map (λ v. v) vs ++ Edge ∷ [])) × All (IsBlockOf symbols words places) vs

-- a context that holds everywhere
pub record HoldsEverywhere (p : LangContext) : Type 0 where
  pub left : Accepts p.left []
  pub right : Accepts p.right []
