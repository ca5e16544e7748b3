-- What an atom may be: a pair, of which either side is nothing, anything, a symbol or a symbol of a set; or a definition or a
-- set by its name.
use Rattle.std.specs.Prelude.{Bool, true, false, ℕ, ◌&&◌, ◌||◌, ◌==◌, List, [], codes, Option, None, Some, cond}
use Rattle.std.specs.List.{list_any}
use Rattle.std.specs.Option.{option_map, option_and_then}
use Rattle.std.specs.Str.{bytes_eq}
use Rattle.regex_ast.specs.declared.expr.Raw.{Raw}
use Rattle.regex_ast.specs.declared.expr.Raw.TheVariants.{Run, Quoted}
use Rattle.regex_tokens.specs.Reading.{undone_from}
use Rattle.twolc_tokens.specs.Spelling.{sides_of}
use Rattle.project_meaning.specs.Trees.{Side, nothing, anything, one, member, Pair, Part, pair, called}

-- an escape stands in it
abbrev pub is_escaped : List ℕ → Bool
is_escaped run = list_any (λ b. b == 37) run

-- the symbol that a run is, its escapes undone
abbrev pub symbol_in : List ℕ → Raw
symbol_in run = cond (is_escaped run) (Quoted (undone_from false run)) (Run run)

-- which names stand for sets and for definitions
pub record Names : Type 0 where
  pub sets : List (List ℕ)
  pub definitions : List (List ℕ)

abbrev pub is_one_of : List (List ℕ) → List ℕ → Bool
is_one_of names run = list_any (bytes_eq run) names

abbrev pub is_known : Names → List ℕ → Bool
is_known names run = is_one_of names.sets run || is_one_of names.definitions run

-- a side: left out or `?`, anything; `0`, nothing; a set's name, one of its symbols; and any other run, unless it is a
-- definition's name, that symbol. A run with an escape is no name and not `0`
abbrev pub side_in : Names → List ℕ → Option (Side Raw)
side_in names run =
    cond (bytes_eq run [] || bytes_eq run (codes "?")) (Some anything)
    (cond (bytes_eq run (codes "0")) (Some nothing)
    (cond (is_one_of names.sets run) (Some (member run)) (cond (is_one_of names.definitions run) None (Some (one (symbol_in run))))))

abbrev pub is_nothing : Side Raw → Bool
is_nothing nothing = true
is_nothing _ = false

-- two sides, not both nothing and not both left out
abbrev pub pair_of : Side Raw → Side Raw → Option (Pair Raw)
pair_of up low = cond (is_nothing up && is_nothing low) None (Some (record { up = up; low = low }))

abbrev pub pair_in : Names → List ℕ → List ℕ → Option (Pair Raw)
pair_in names up low =
    cond (bytes_eq up [] && bytes_eq low []) None
    (option_and_then (λ u. option_and_then (pair_of u) (side_in names low)) (side_in names up))

-- a run alone: a set or a definition by its name, or a symbol on both sides
abbrev pub alone_in : Names → List ℕ → Option (Part Raw)
alone_in names run =
    cond (bytes_eq run (codes "0")) None
    (cond (is_known names run) (Some (called run)) (Some (pair (record { up = one (symbol_in run); low = one (symbol_in run) }))))

abbrev pub part_by : Names → List ℕ → Option (List ℕ × List ℕ) → Option (Part Raw)
part_by names atom None = alone_in names atom
part_by names atom (Some sides) = option_map pair (pair_in names sides.0 sides.1)

-- what an atom is where these names are known; or it is none
abbrev pub part_in : Names → List ℕ → Option (Part Raw)
part_in names atom = part_by names atom (sides_of atom)

-- Pairs of symbols, as the alphabet has them and the centre of a rule: each side is `0` or a run, which no name makes another thing.

abbrev pub no_names : Names
no_names = record { sets = []; definitions = [] }

abbrev pub is_plain_side : Side Raw → Bool
is_plain_side nothing = true
is_plain_side (one symbol) = true
is_plain_side _ = false

abbrev pub plain_pair : Part Raw → Option (Pair Raw)
plain_pair (pair p) = cond (is_plain_side p.up && is_plain_side p.low) (Some p) None
plain_pair (called name) = None

-- `x`, which is `x:x`, or `x:y`
abbrev pub symbols_in : List ℕ → Option (Pair Raw)
symbols_in atom = option_and_then plain_pair (part_in no_names atom)

-- `x:y`, neither of which is one of the names
abbrev pub centre_by : Names → List ℕ → Option (List ℕ × List ℕ) → Option (Pair Raw)
centre_by names atom None = None
centre_by names atom (Some sides) = option_and_then plain_pair (part_in names atom)

abbrev pub centre_in : Names → List ℕ → Option (Pair Raw)
centre_in names atom = centre_by names atom (sides_of atom)

-- one symbol, in the list of a set
abbrev pub symbol_by : List ℕ → Option (List ℕ × List ℕ) → Option Raw
symbol_by atom None = cond (bytes_eq atom (codes "0")) None (Some (symbol_in atom))
symbol_by atom (Some sides) = None

abbrev pub one_symbol_in : List ℕ → Option Raw
one_symbol_in atom = symbol_by atom (sides_of atom)
