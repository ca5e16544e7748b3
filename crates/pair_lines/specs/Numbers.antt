-- Strings of pairs by the numbers of their symbols, and the lines that tell what becomes of them.
use Rattle.std.specs.Prelude.{◌≡◌, ◌+◌, ◌-◌, ◌++◌, ℕ, List, [], ◌∷◌, Contains, Option, None, Some, codes, decimal, length, map, slice_index_or}
use Rattle.std.specs.Option.{option_and_then, option_map}
use Rattle.fsm_base.specs.declared.letters.Pair.{Pair}
use Rattle.fsm_base.specs.declared.letters.Sym.{Sym}
use Rattle.word_relations.specs.Words.{IsOver}
use Rattle.grammar_pairs.specs.Tables.{under}
use Rattle.pair_test.specs.declared.verdict.Verdict.{Verdict}
use Rattle.pair_test.specs.declared.verdict.Verdict.TheVariants.{Pass, Fail}
use Rattle.project_meaning.specs.Grammars.{Letter}
use Rattle.reply_meaning.specs.Replies.{headed}
use Rattle.pair_lines.specs.declared.numbers.Numbered.{Numbered}
use Rattle.pair_lines.specs.declared.numbers.Numbered.TheVariants.{Word, Outside}

-- by a table that has the symbols of texts
module _ (table : List (List ℕ × Sym)) where
  -- a side by its symbol, if the table has it
  abbrev pub side_in : Option (List ℕ) → Option (Option Sym)
  side_in None = Some None
  side_in (Some text) = option_map (λ s. Some s) (under text table)

  -- a pair by its symbols, if the table has them
  abbrev pub pair_in : Letter → Option Pair
  pair_in x = option_and_then (λ up. option_map (λ low. record { up = up; low = low }) (side_in x.low)) (side_in x.up)

  -- it is one of these pairs
  abbrev pub IsAmong : List Pair → Letter → Type 0
  IsAmong pairs x = (y : Pair) × (pair_in x ≡ Some y) × Contains pairs y

  -- the string is a word of these pairs, or the first that is none of them has this number, counted from 1
  abbrev pub IsNumbered : List Pair → List Letter → Numbered → Type 0
  IsNumbered pairs p (Word word) = (map pair_in p ≡ map (λ y. Some y) word.items) × IsOver pairs word.items
  IsNumbered pairs p (Outside number) =
      (before : List Letter) × (x : Letter) × (behind : List Letter) × (p ≡ before ++ x ∷ behind) × (number ≡ length before + 1)
      × ((y : Letter) → Contains before y → IsAmong pairs y) × ¬ IsAmong pairs x

-- a verdict has a rule's number among so many
abbrev pub IsWithin : ℕ → Verdict → Type 0
IsWithin count Pass = Unit {0}
IsWithin count (Fail rule place) = (before : ℕ) × (behind : ℕ) × (rule ≡ before + 1) × (count ≡ before + 1 + behind)

-- the line that tells a verdict, where rules have these names
abbrev pub verdict_line : ℕ → List (List ℕ) → Verdict → List ℕ
verdict_line version names Pass = headed version (codes "pass")
verdict_line version names (Fail rule place) = headed version (codes "fail " ++ decimal rule ++ 32 ∷ decimal place ++ 32 ∷ slice_index_or names (rule - 1) [])
