-- Marks, of which the words are that stand for replacements (Kaplan and Kay, Regular Models of Phonological Rule Systems,
-- 1994, section 5, on brackets; Karttunen, The Replace Operator, 1995): their two sides, and which of them there are.
use Rattle.std.specs.Prelude.{ℕ, ◌+◌, ◌*◌, ◌<◌, List, Option, Some, None, Contains}
use Rattle.std.specs.List.{flat_map}
use Rattle.std.specs.Option.{option_to_list}
use Rattle.fsm_base.specs.declared.letters.Sym.{Sym}
use Rattle.replace_marks.specs.declared.marks.Mark.{Mark}
use Rattle.replace_marks.specs.declared.marks.Mark.TheVariants.{Copy, Up, Low, Open, Close}

-- the symbol of a mark on each side: a copied symbol is on both, a centre's on the upper, and what replaces it on the lower
abbrev pub upper_of : Mark → Option Sym
upper_of (Copy symbol) = Some symbol
upper_of (Up number symbol) = Some symbol
upper_of (Low number symbol) = None
upper_of (Open number) = None
upper_of (Close number) = None

abbrev pub lower_of : Mark → Option Sym
lower_of (Copy symbol) = Some symbol
lower_of (Up number symbol) = None
lower_of (Low number symbol) = Some symbol
lower_of (Open number) = None
lower_of (Close number) = None

-- the two sides of a word of marks
abbrev pub uppers : List Mark → List Sym
uppers marks = flat_map (λ m. option_to_list (upper_of m)) marks

abbrev pub lowers : List Mark → List Sym
lowers marks = flat_map (λ m. option_to_list (lower_of m)) marks

-- its symbol is one of these, and its number is below that of the mappings
abbrev pub IsMarkOf : List Sym → ℕ → Mark → Type 0
IsMarkOf symbols maps (Copy symbol) = Contains symbols symbol
IsMarkOf symbols maps (Up number symbol) = (number < maps) × Contains symbols symbol
IsMarkOf symbols maps (Low number symbol) = (number < maps) × Contains symbols symbol
IsMarkOf symbols maps (Open number) = number < maps
IsMarkOf symbols maps (Close number) = number < maps

-- how many these are: each symbol as one that is copied, and for each mapping its two brackets and each symbol on either side
abbrev pub count_of : ℕ → ℕ → ℕ
count_of symbols maps = symbols + maps * (symbols + symbols + 2)
