-- Which words of marks (replace_words) keep directed rules from the left.
use Rattle.std.specs.Prelude.{◌≡◌, true, List, ◌∷◌, ◌++◌, All, Some, slice_get, ℕ}
use Rattle.fsm_base.specs.declared.letters.Bound.{Bound}
use Rattle.fsm_base.specs.declared.letters.Sym.{Sym}
use Rattle.expr_meaning.specs.Operators.{inner}
use Rattle.replace_words.specs.declared.marks.Mark.{Mark}
use Rattle.replace_words.specs.Marked.{upper_of, reading, IsMarked}
use Rattle.replace_words.specs.Places.{Rules}
use Rattle.directed_words.specs.declared.kinds.MarkKind.TheVariants.{Copied, Opening, Closing, NotClosing, Inside, Upper}
use Rattle.directed_words.specs.declared.ways.Length.{Length}
use Rattle.directed_words.specs.declared.ways.Length.TheVariants.{Longest, Shortest}
use Rattle.directed_words.specs.Kinds.{is_of, BeginsWith}

-- no word of the middle set stands between words of the other two
abbrev pub NoneBetween : (List (Bound Mark) → Type 0) → (List (Bound Mark) → Type 0) → (List (Bound Mark) → Type 0) → List (Bound Mark) → Type 0
NoneBetween P S Q w = (x m z : List (Bound Mark)) → w ≡ x ++ (m ++ z) → P x → S m → Q z → ⊥

-- the word begins with a replacement and goes on to a symbol of the upper side behind one
abbrev pub GoesBeyond : List (Bound Mark) → Type 0
GoesBeyond w =
    (o : Bound Mark) × (y : List (Bound Mark)) × (e : Bound Mark) × (v : List (Bound Mark)) × (t : Bound Mark) × (r : List (Bound Mark)) × (w ≡ o ∷ (y ++ e ∷ (v ++ t ∷ r)))
    × (is_of Opening o ≡ true) × (is_of Closing e ≡ true) × (is_of Upper t ≡ true)

-- it begins with a replacement and doesn't end it
abbrev pub StaysInside : List (Bound Mark) → Type 0
StaysInside w = (o : Bound Mark) × (y : List (Bound Mark)) × (w ≡ o ∷ y) × (is_of Opening o ≡ true) × All (λ m. is_of NotClosing m ≡ true) y

module _ {P : Type 0} (of : Rules P) where
  -- what the place asks of the upper side of a word before, at and behind a match
  abbrev pub LeftReads : P → List (Bound Mark) → Type 0
  LeftReads p x = of.left p (reading upper_of x)

  abbrev pub CentreReads : P → List (Bound Mark) → Type 0
  CentreReads p m = (c : List Sym) × (reading upper_of m ≡ inner c) × of.centre p c

  abbrev pub RightReads : P → List (Bound Mark) → Type 0
  RightReads p z = of.right p (reading upper_of z)

  -- no match begins where a symbol is copied
  abbrev pub BarsCopies : P → List (Bound Mark) → Type 0
  BarsCopies p w = NoneBetween (LeftReads p) (λ m. CentreReads p m × BeginsWith Copied m) (RightReads p) w

  -- no longer match begins where a replacement does, or no shorter one
  abbrev pub BarsOthers : Length → P → List (Bound Mark) → Type 0
  BarsOthers Longest p w = NoneBetween (LeftReads p) (λ m. CentreReads p m × GoesBeyond m) (RightReads p) w
  BarsOthers Shortest p w = NoneBetween (LeftReads p) (λ m. CentreReads p m × StaysInside m) (λ z. RightReads p z × BeginsWith Inside z) w

  -- the words of marks of directed rules from the left
  abbrev pub IsMarkedFromLeft : List Sym → List P → Length → List (Bound Mark) → Type 0
  IsMarkedFromLeft syms places length w =
      IsMarked of syms places true w × ((k : ℕ) (p : P) → slice_get places k ≡ Some p → BarsCopies p w × BarsOthers length p w)
