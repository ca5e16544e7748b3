-- Conditions among the symbols of a word: flag diacritics that stay in a network, where whoever looks a word up obeys them (Beesley and
-- Karttunen, Finite State Morphology, 2003, chapter 7). A condition is written as a symbol that no word has: symbols of words have
-- numbers below `first`, and from there on a number says the place of a condition in a list.
use Rattle.std.specs.Prelude.{ℕ, ◌-◌, Bool, true, false, cond, List, [], ◌∷◌, IsTrue, nat_lt, slice_get}
use Rattle.std.specs.List.{flat_map}
use Rattle.std.specs.Option.{option_to_list}
use Rattle.fsm_base.specs.declared.letters.Sym.{Sym}
use Rattle.project_meaning.specs.Trees.{Piece, flag}
use Rattle.project_meaning.specs.Lexicons.{flags_pass}
use Rattle.flag_diacritics.specs.Tapes.{flag_of}
use Rattle.fst_flagged.specs.declared.condition.Condition.{Condition}
use Rattle.fst_flagged.specs.declared.condition.Run.{Run}
use Rattle.fst_flagged.specs.declared.condition.Run.TheVariants.{Upper, Lower}

-- the number of the first condition
abbrev pub first : ℕ
first = 16777216

-- the symbol is one of words, and no condition
abbrev pub is_letter : Sym → Bool
is_letter symbol = nat_lt symbol.0 first

-- the symbol, if it is one of words
abbrev pub letter_at : Sym → List Sym
letter_at symbol = cond (is_letter symbol) (symbol ∷ []) []

-- a word without its conditions
abbrev pub letters_of : List Sym → List Sym
letters_of word = flat_map letter_at word

-- the condition that a symbol stands for; a symbol of words stands for none, and so does a number behind the list's end
abbrev pub condition_at : List Condition → Sym → List Condition
condition_at conditions symbol = cond (is_letter symbol) [] (option_to_list (slice_get conditions (symbol.0 - first)))

-- the two are one run
abbrev pub is_run : Run → Run → Bool
is_run Upper Upper = true
is_run Upper Lower = false
is_run Lower Upper = false
is_run Lower Lower = true

-- the flag of a condition, if it is one of this run
abbrev pub flag_in : Run → Condition → List (Piece (List ℕ))
flag_in run condition = cond (is_run run condition.run) (flag (flag_of condition.flag) ∷ []) []

-- the flags of a run along a word
abbrev pub flags_of : Run → List Condition → List Sym → List (Piece (List ℕ))
flags_of run conditions word = flat_map (flag_in run) (flat_map (condition_at conditions) word)

-- the conditions of a word hold: the flags of each run pass, from all features neutral, each run by itself
abbrev pub Hold : List Condition → List Sym → Type 0
Hold conditions word = IsTrue (flags_pass (flags_of Upper conditions word)) × IsTrue (flags_pass (flags_of Lower conditions word))
