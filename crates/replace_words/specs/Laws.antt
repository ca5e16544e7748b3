-- What places rewrite, by words of marks.
use Rattle.std.specs.Prelude.{◌≡◌, ◌↔◌, Bool, List, map, All, Contains}
use Rattle.std.specs.List.{filter_map}
use Rattle.fsm_base.specs.declared.letters.Bound.{Bound}
use Rattle.fsm_base.specs.declared.letters.Sym.{Sym}
use Rattle.replace_words.specs.declared.marks.Mark.{Mark}
use Rattle.replace_words.specs.Places.{Rules, HasNoEmptyCentre, IsRewrittenAt}
use Rattle.replace_words.specs.Marked.{upper_of, lower_of, symbol_of, IsMarked}
use Rattle.replace_words.specs.Filled.{InsertsOnly, IsFilledWord}
use Rattle.replace_words.specs.Firsts.{first_mark, HasSymbolIn, ActsByFirsts}

-- some word of marks keeps the rules and has these two sides
abbrev pub IsMarkedBy : {P : Type 0} → Rules P → List P → List Sym → Bool → List Sym → List Sym → Type 0
IsMarkedBy of places symbols optional u w =
    (z : List (Bound Mark)) × IsMarked of symbols places optional z × (filter_map (symbol_of upper_of) z ≡ u) × (filter_map (symbol_of lower_of) z ≡ w)

abbrev pub RewritingsAreMarkedWords : Type 1
RewritingsAreMarkedWords =
    (P : Type 0) (of : Rules P) (places : List P) (symbols : List Sym) (optional : Bool) (u w : List Sym)
    → ((p : P) → Contains places p → HasNoEmptyCentre of p) → IsRewrittenAt of places symbols optional u w ↔ IsMarkedBy of places symbols optional u w

-- some word of marks keeps what insertion asks and has these two sides
abbrev pub IsFilledBy : {P : Type 0} → Rules P → List P → List Sym → Bool → List Sym → List Sym → Type 0
IsFilledBy of places symbols optional u w =
    (z : List (Bound Mark)) × IsFilledWord of symbols places optional z × (filter_map (symbol_of upper_of) z ≡ u) × (filter_map (symbol_of lower_of) z ≡ w)

-- places that insert relate the two sides of these words, and nothing else
abbrev pub InsertionsAreMarkedWords : Type 1
InsertionsAreMarkedWords =
    (P : Type 0) (of : Rules P) (places : List P) (symbols : List Sym) (optional : Bool) (u w : List Sym)
    → ((p : P) → Contains places p → InsertsOnly of p) → IsRewrittenAt of places symbols optional u w ↔ IsFilledBy of places symbols optional u w

-- where places act by the firsts of symbols, a word of marks keeps the rules just where the word of the firsts does
abbrev pub MarkedWordsGoByFirsts : Type 1
MarkedWordsGoByFirsts =
    (P : Type 0) (of : Rules P) (places : List P) (symbols firsts : List Sym) (first : Sym → Sym) (optional : Bool) (z : List (Bound Mark))
    → ((p : P) → Contains places p → ActsByFirsts of symbols first p) → ((s : Sym) → Contains symbols s → Contains firsts (first s)) → All (HasSymbolIn symbols) z
    → IsMarked of symbols places optional z ↔ IsMarked of firsts places optional (map (first_mark first) z)
