-- What a network with flag diacritics relates (Beesley and Karttunen, Finite State Morphology, 2003, chapter 7): the pairs of each
-- accepted tape on which the flags of the upper side pass, from all features neutral, and so do those of the lower side by
-- themselves. What a flag asks for, and what its feature is behind it, is the table of project_meaning's lexicons.
use Rattle.std.specs.Prelude.{◌≡◌, ℕ, List, [], ◌∷◌, map, slice_get, IsTrue}
use Rattle.std.specs.List.{flat_map}
use Rattle.std.specs.Option.{option_to_list}
use Rattle.fsm_base.specs.declared.letters.Sym.{Sym}
use Rattle.fsm_base.specs.declared.letters.Pair.{Pair}
use Rattle.fsa.specs.Automaton.{Automaton, UsesLetter}
use Rattle.fsa.specs.Language.{Accepts}
use Rattle.fst_algebra.specs.Relation.{uppers, lowers}
use Rattle.regex_ast.specs.declared.lexc.FlagOp.{FlagOp}
use Rattle.project_meaning.specs.Trees.{Flag, Piece, flag}
use Rattle.project_meaning.specs.Lexicons.{flags_pass}
use Rattle.flag_diacritics.specs.declared.tape.Tape.{Tape}
use Rattle.flag_diacritics.specs.declared.tape.Tape.TheVariants.{Pair as OfPair, UpFlag, LowFlag}

-- a flag of the program, by its parts
abbrev pub flag_of : FlagOp → Flag
flag_of f = record { kind = f.kind; feature = f.feature; value = f.value }

-- the flag with a number, if there is one
abbrev pub numbered : List FlagOp → ℕ → List (Piece (List ℕ))
numbered flags n = map (λ f. flag (flag_of f)) (option_to_list (slice_get flags n))

-- the flag that a letter has on its upper side, if it has one, and on its lower side
abbrev pub upper_flag : List FlagOp → Tape → List (Piece (List ℕ))
upper_flag flags (OfPair pair) = []
upper_flag flags (UpFlag n) = numbered flags n
upper_flag flags (LowFlag n) = []

abbrev pub lower_flag : List FlagOp → Tape → List (Piece (List ℕ))
lower_flag flags (OfPair pair) = []
lower_flag flags (UpFlag n) = []
lower_flag flags (LowFlag n) = numbered flags n

-- the flags of the two sides pass, each side by itself
abbrev pub FlagsPass : List FlagOp → List Tape → Type 0
FlagsPass flags tape = IsTrue (flags_pass (flat_map (upper_flag flags) tape)) × IsTrue (flags_pass (flat_map (lower_flag flags) tape))

-- a tape's pairs, without its flags
abbrev pub pair_in : Tape → List Pair
pair_in (OfPair pair) = pair ∷ []
pair_in (UpFlag n) = []
pair_in (LowFlag n) = []

abbrev pub pairs_of : List Tape → List Pair
pairs_of tape = flat_map pair_in tape

-- some accepted tape whose flags pass has these pairs
abbrev pub HasPairs : Automaton Tape → List FlagOp → List Pair → Type 0
HasPairs net flags pairs = (tape : List Tape) × Accepts net tape × FlagsPass flags tape × (pairs ≡ pairs_of tape)

-- some accepted tape whose flags pass has these two sides
abbrev pub TapesRelate : Automaton Tape → List FlagOp → List Sym → List Sym → Type 0
TapesRelate net flags u w = (tape : List Tape) × Accepts net tape × FlagsPass flags tape × (uppers (pairs_of tape) ≡ u) × (lowers (pairs_of tape) ≡ w)

-- some edge carries the pair
abbrev pub UsesPair : Automaton Tape → Pair → Type 0
UsesPair net pair = UsesLetter net (OfPair pair)
