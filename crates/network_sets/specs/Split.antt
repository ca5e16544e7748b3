-- Words split in three parts, with a border between two parts (marks as in Kaplan and Kay, Regular Models of Phonological
-- Rule Systems, 1994, section 4).
use Rattle.std.specs.Prelude.{◌≡◌, List, [], ◌∷◌, ◌++◌, Option, None, Some, map}
use Rattle.fsm_base.specs.declared.letters.Sym.{Sym}
use Rattle.fsm_base.specs.declared.letters.Bound.{Bound}
use Rattle.fsm_base.specs.declared.letters.Bound.TheVariants.{Edge, Inner}
use Rattle.word_relations.specs.Words.{IsOver}
use Rattle.expr_meaning.specs.Operators.{inner}
use Rattle.network_algebra.specs.Networks.{all_letters}
use Rattle.network_sets.specs.declared.parts.Split.{Split}
use Rattle.network_sets.specs.declared.parts.Split.TheVariants.{Letter, Border}

-- the three parts with the borders
abbrev pub split : List (Bound Sym) → List (Bound Sym) → List (Bound Sym) → List Split
split before part behind = map Letter before ++ (Border ∷ (map Letter part ++ (Border ∷ map Letter behind)))

-- a split word whose parts are in the three sets
abbrev pub IsSplit : (List (Bound Sym) → Type 0) → (List (Bound Sym) → Type 0) → (List (Bound Sym) → Type 0) → List Split → Type 0
IsSplit P Q R v = (before : List (Bound Sym)) × (part : List (Bound Sym)) × (behind : List (Bound Sym)) × (v ≡ split before part behind) × P before × Q part × R behind

-- a part with the border behind it
abbrev pub IsBordered : (List (Bound Sym) → Type 0) → List Split → Type 0
IsBordered P v = (w : List (Bound Sym)) × P w × (v ≡ map Letter w ++ Border ∷ [])

-- the letters of split words
abbrev pub split_letters : List Sym → List Split
split_letters symbols = Border ∷ map Letter (all_letters symbols)

-- a word over the alphabet, split round a part that is in the set and without the edge, with the edge before and behind
-- the word
abbrev pub IsPlace : List Sym → (List (Bound Sym) → Type 0) → List Split → Type 0
IsPlace symbols P v =
    (x : List (Bound Sym)) × (y : List Sym) × (z : List (Bound Sym)) × (v ≡ split (Edge ∷ x) (inner y) (z ++ Edge ∷ []))
    × IsOver (inner symbols) x × P (inner y) × IsOver (inner symbols) z

-- what is left of a letter when borders and edges are dropped
abbrev pub kept : Split → Option (Bound Sym)
kept Border = None
kept (Letter Edge) = None
kept (Letter (Inner x)) = Some (Inner x)

-- a row for each letter
abbrev pub kept_table : List Split → List (Split × Option (Bound Sym))
kept_table letters = map (λ x. (x, kept x)) letters
