-- Which marks there are, and what contexts and networks see of them.
use Rattle.std.specs.Prelude.{◌<◌, ℕ, zero, suc, List, [], ◌∷◌, ◌++◌, Option, Some, None, map, Contains}
use Rattle.std.specs.List.{flat_map}
use Rattle.fsm_base.specs.declared.letters.Bound.{Bound}
use Rattle.fsm_base.specs.declared.letters.Bound.TheVariants.{Edge, Inner}
use Rattle.fsm_base.specs.declared.letters.Pair.{Pair}
use Rattle.fsm_base.specs.declared.letters.Sym.{Sym}
use Rattle.regex_ast.specs.declared.expr.Side.{Side}
use Rattle.replace_words.specs.declared.marks.Mark.{Mark}
use Rattle.replace_words.specs.declared.marks.Mark.TheVariants.{Copy, Up, Low, Same, Open, Close}
use Rattle.replace_words.specs.Marked.{side_of, on_left, on_right}
use Rattle.replace_words.specs.Firsts.{first_mark}
use Rattle.replace_rules.specs.declared.langs.Written.{Written}
use Rattle.replace_rules.specs.declared.langs.Written.TheVariants.{Copied, Upper, Lower, Both}

-- the mark's symbol is one of these, and its number is below that of the places; or it is the edge
abbrev pub IsMarkOf : List Sym → ℕ → Bound Mark → Type 0
IsMarkOf symbols places Edge = Unit {0}
IsMarkOf symbols places (Inner (Copy s)) = Contains symbols s
IsMarkOf symbols places (Inner (Up s)) = Contains symbols s
IsMarkOf symbols places (Inner (Low s)) = Contains symbols s
IsMarkOf symbols places (Inner (Same s)) = Contains symbols s
IsMarkOf symbols places (Inner (Open k)) = k < places
IsMarkOf symbols places (Inner (Close k)) = k < places

-- all of them are marks of these symbols
abbrev pub AreMarksOf : List Sym → List (Bound Mark) → Type 0
AreMarksOf symbols marks = (places : ℕ) × ((m : Bound Mark) → Contains marks m → IsMarkOf symbols places m)

-- the marks of a symbol, and the brackets of so many places, as they are listed
abbrev pub marks_with : Sym → List (Bound Mark)
marks_with s = Inner (Copy s) ∷ Inner (Up s) ∷ Inner (Low s) ∷ Inner (Same s) ∷ []

abbrev pub brackets : ℕ → List (Bound Mark)
brackets zero = []
brackets (suc n) = brackets n ++ (Inner (Open n) ∷ Inner (Close n) ∷ [])

-- the mark as which a symbol is written
abbrev pub mark_as : Written → Sym → Mark
mark_as Copied s = Copy s
mark_as Upper s = Up s
mark_as Lower s = Low s
mark_as Both s = Same s

-- the symbols of a mark as a pair, where it has any
abbrev pub pair_of : Bound Mark → Option Pair
pair_of Edge = None
pair_of (Inner (Copy s)) = Some (record { up = Some s; low = Some s })
pair_of (Inner (Up s)) = Some (record { up = Some s; low = None })
pair_of (Inner (Low s)) = Some (record { up = None; low = Some s })
pair_of (Inner (Same s)) = Some (record { up = Some s; low = Some s })
pair_of (Inner (Open k)) = None
pair_of (Inner (Close k)) = None

-- the table of what a function gives for each letter
abbrev pub table_of : {L M : Type 0} → (L → Option M) → List L → List (L × Option M)
table_of f letters = map (λ x. (x, f x)) letters

abbrev pub left_table : Side → List (Bound Mark) → List (Bound Mark × Option (Bound Sym))
left_table side marks = table_of (side_of (on_left side)) marks

abbrev pub right_table : Side → List (Bound Mark) → List (Bound Mark × Option (Bound Sym))
right_table side marks = table_of (side_of (on_right side)) marks

abbrev pub pair_table : List (Bound Mark) → List (Bound Mark × Option Pair)
pair_table marks = table_of pair_of marks

abbrev pub own_table : List (Bound Mark) → List (Bound Mark × Option (Bound Mark))
own_table marks = table_of (λ m. Some m) marks

-- the table that gives each mark of the symbols and of so many places the mark of the first of its symbol's like
abbrev pub first_table : (Sym → Sym) → List Sym → ℕ → List (Bound Mark × Option (Bound Mark))
first_table first symbols places = table_of (λ m. Some (first_mark first m)) ((Edge ∷ flat_map marks_with symbols) ++ brackets places)
