-- Words of marks (replace_words, directed_words) of directed rules from the left. Each context is a place.
use Rattle.std.specs.Prelude.{◌≡◌, ◌⊎◌, ◌<◌, ℕ, List, [], ◌∷◌, ◌++◌, Option, Some, None, All, Contains}
use Rattle.std.specs.List.{flat_map}
use Rattle.fsm_base.specs.declared.letters.Bound.{Bound}
use Rattle.fsm_base.specs.declared.letters.Bound.TheVariants.{Edge, Inner}
use Rattle.fsm_base.specs.declared.letters.Sym.{Sym}
use Rattle.fsa.specs.Complete.{Accepts}
use Rattle.regex_ast.specs.declared.expr.Side.TheVariants.{UpUp}
use Rattle.expr_meaning.specs.Operators.{inner, HasPrefix, HasSuffix}
use Rattle.replace_words.specs.declared.marks.Mark.{Mark}
use Rattle.replace_words.specs.declared.marks.Mark.TheVariants.{Copy}
use Rattle.replace_words.specs.Marked.{KeepsLeft, KeepsRight, bracket, upper_of, reading}
use Rattle.replace_words.specs.Places.{Rules}
use Rattle.replace_rules.specs.declared.rules.LangMap.{LangMap}
use Rattle.replace_rules.specs.declared.rules.LangContext.{LangContext}
use Rattle.replace_rules.specs.Rules.{HasCentre}
use Rattle.replace_rules.specs.Places.{HasPlain, HasMarkup, IsBody}
use Rattle.directed_words.specs.declared.kinds.MarkKind.TheVariants.{Copied, Inside}
use Rattle.directed_words.specs.declared.ways.Length.{Length}
use Rattle.directed_words.specs.declared.ways.Length.TheVariants.{Longest, Shortest}
use Rattle.directed_words.specs.Kinds.{BeginsWith}
use Rattle.directed_words.specs.Marked.{NoneBetween, GoesBeyond, StaysInside}

-- contexts as places of the mappings
abbrev pub directing : List LangMap → Rules LangContext
directing maps = record {
  centre = λ p c. HasCentre maps c;
  replaces = λ p c r. HasPlain maps c r;
  surrounds = λ p b c a. HasMarkup maps b c a;
  side = λ p. UpUp;
  left = λ p x. HasSuffix (Accepts p.left) x;
  right = λ p z. HasPrefix (Accepts p.right) z;
}

-- the context's left part holds behind the word of marks, and its right part before it
abbrev pub LeftAt : LangContext → List (Bound Mark) → Type 0
LeftAt p x = HasSuffix (Accepts p.left) (reading upper_of x)

abbrev pub RightAt : LangContext → List (Bound Mark) → Type 0
RightAt p z = HasPrefix (Accepts p.right) (reading upper_of z)

-- the upper side of the word of marks is a centre
abbrev pub IsCentre : List LangMap → List (Bound Mark) → Type 0
IsCentre maps m = (c : List Sym) × (reading upper_of m ≡ inner c) × HasCentre maps c

-- the word goes on behind the replacement with which it begins, or doesn't end it
abbrev pub IsOther : Length → List (Bound Mark) → Type 0
IsOther Longest m = GoesBeyond m
IsOther Shortest m = StaysInside m

-- no word of the middle set stands between the two others; of shorter ones only those count behind which the replacement goes on
abbrev pub NoneOther : Length → (List (Bound Mark) → Type 0) → (List (Bound Mark) → Type 0) → (List (Bound Mark) → Type 0) → List (Bound Mark) → Type 0
NoneOther Longest P S Q w = NoneBetween P S Q w
NoneOther Shortest P S Q w = NoneBetween P S (λ z. Q z × BeginsWith Inside z) w

-- what is asked at the place of the number, where matches that bar a copy, or a replacement, are of these two sets
abbrev pub IsKeptAt : (List (Bound Mark) → Type 0) → (List (Bound Mark) → Type 0) → Length → ℕ → LangContext → List (Bound Mark) → Type 0
IsKeptAt Copies Others size k p w =
    (KeepsLeft (LeftAt p) k w × KeepsRight (RightAt p) k w) × NoneBetween (LeftAt p) Copies (RightAt p) w × NoneOther size (LeftAt p) Others (RightAt p) w

abbrev pub IsKeptBy : List LangMap → Length → ℕ → LangContext → List (Bound Mark) → Type 0
IsKeptBy maps size k p w = IsKeptAt (λ m. IsCentre maps m × BeginsWith Copied m) (λ m. IsCentre maps m × IsOther size m) size k p w

-- a symbol that is copied, or a replacement between the brackets of one of so many places
abbrev pub IsBlockOf : List Sym → List LangMap → ℕ → List (Bound Mark) → Type 0
IsBlockOf symbols maps places v =
    ((s : Sym) × (v ≡ Inner (Copy s) ∷ []) × Contains symbols s) ⊎ ((k : ℕ) × (k < places) × ((b : List (Bound Mark)) × (v ≡ bracket k b) × IsBody maps b))

-- such blocks between edges
abbrev pub AreBlocksOf : List Sym → List LangMap → ℕ → List (Bound Mark) → Type 0
AreBlocksOf symbols maps places w = (vs : List (List (Bound Mark))) × (w ≡ Edge ∷ (flat_map (λ v. v) vs ++ Edge ∷ [])) × All (IsBlockOf symbols maps places) vs

-- a context that holds everywhere
pub record HoldsEverywhere (p : LangContext) : Type 0 where
  pub left : Accepts p.left []
  pub right : Accepts p.right []

-- the symbol of the upper side of a mark, in a row of a table; the edge has no row
abbrev pub upper_row : Bound Mark → Option (Bound Mark × Option Sym)
upper_row Edge = None
upper_row (Inner m) = Some (Inner m, upper_of m)
