-- The replies to pair strings that are tried on the rules of a two-level grammar (Koskenniemi, Two-level Morphology, 1983), over texts.
-- Each is bytes, with the version's number first; `long`, `line`, `pair`, `pass` and `fail` are tried in this order. Rules, places and
-- pairs are counted from 1.
use Rattle.std.specs.Prelude.{◌≡◌, ◌+◌, ◌++◌, ℕ, List, ◌∷◌, Option, None, Some, Contains, codes, decimal, length, map}
use Rattle.word_relations.specs.Words.{IsOver}
use Rattle.regex_ast.specs.declared.expr.Raw.{Raw}
use Rattle.project_meaning.specs.Grammars.{Holds, Letter, feasible, written_pair}
use Rattle.project_meaning.specs.Leaves.{Leaf}
use Rattle.project_meaning.specs.Projects.{Definition, Project, Defines}
use Rattle.project_meaning.specs.Trees.{Grammar, Pair, Rule, twolc}
use Rattle.reply_meaning.specs.Replies.{IsWord, headed, word_of}
use Rattle.pair_test.specs.Splits.{IsBrokenAt}
use Rattle.pair_test.specs.Verdicts.{IsFirstBroken, IsVerdict}
use Rattle.pair_test.specs.declared.verdict.Verdict.TheVariants.{Pass}
use Rattle.pair_lines.specs.Strings.{IsPairString, letter_of}

-- the project defines the name by a twolc file, which has this grammar
abbrev pub HasGrammar : Project → List ℕ → Grammar Leaf → Type 0
HasGrammar project name g = (d : Definition) × Contains project.definitions d × (d.name ≡ name) × (d.body ≡ twolc g)

-- the string of pairs breaks the rule at a place
abbrev pub IsRuleBrokenAt : Grammar Leaf → List Letter → Rule Leaf → ℕ → Type 0
IsRuleBrokenAt g p r place =
    (centre : Letter) × Contains (written_pair r.centre) centre × IsBrokenAt (λ (x : Letter). x.up) (λ x. x.low) (Holds g r.contexts) r.kind centre p place

-- the first pair of a string that isn't one of these has this number
pub record IsFirstOutside (pairs p : List Letter) (number : ℕ) : Type 0 where
  pub before : List Letter
  pub outside : Letter
  pub behind : List Letter
  pub string_is : p ≡ before ++ outside ∷ behind
  pub number_is : number ≡ length before + 1
  pub among : IsOver pairs before
  pub not_among : ¬ Contains pairs outside

-- the reply to a string of pairs: the first that isn't feasible, or that it passes, or the first rule that it breaks, and where
pub data RepliesToString (g : Grammar Leaf) (version : ℕ) (p : List Letter) (bytes : List ℕ) : Type 0 where
  no_pair : (number : ℕ) → IsFirstOutside (feasible g) p number → bytes ≡ headed version (codes "pair " ++ decimal number) → RepliesToString g version p bytes
  passes : IsOver (feasible g) p → IsVerdict (IsRuleBrokenAt g p) g.rules Pass → bytes ≡ headed version (codes "pass") → RepliesToString g version p bytes
  fails : (rule place : ℕ) → IsOver (feasible g) p → (first : IsFirstBroken (IsRuleBrokenAt g p) g.rules rule place)
      → bytes ≡ headed version (codes "fail " ++ decimal rule ++ 32 ∷ decimal place ++ 32 ∷ first.broken.name) → RepliesToString g version p bytes

-- the reply to a text in Normalization Form C, where the name is of a twolc file
pub data RepliesToText (project : Project) (version : ℕ) (name text bytes : List ℕ) : Type 0 where
  no_string : ((pairs : List (Pair Raw)) → ¬ IsPairString text pairs) → bytes ≡ headed version (codes "line") → RepliesToText project version name text bytes
  string : (pairs : List (Pair Raw)) (g : Grammar Leaf) → IsPairString text pairs → HasGrammar project name g → RepliesToString g version (map letter_of pairs) bytes → RepliesToText project version name text bytes
  -- want of memory is answered for the line alone
  no_memory : bytes ≡ headed version (codes "memory") → RepliesToText project version name text bytes

-- the reply to a line as it is told: `None` is one of more than 4,096 bytes
pub data RepliesToPairs (project : Project) (version : ℕ) (name : List ℕ) : Option (List ℕ) → List ℕ → Type 0 where
  long : {bytes : List ℕ} → bytes ≡ headed version (codes "long") → RepliesToPairs project version name None bytes
  no_text : {line bytes : List ℕ} → ¬ IsWord line → bytes ≡ headed version (codes "line") → RepliesToPairs project version name (Some line) bytes
  text : {line bytes : List ℕ} → IsWord line → RepliesToText project version name (word_of line) bytes → RepliesToPairs project version name (Some line) bytes

-- there is no grammar of this name: the project doesn't define it, or not by a twolc file
pub data RefusesPairs (project : Project) (version : ℕ) (name bytes : List ℕ) : Type 0 where
  no_net : ¬ Defines project name → bytes ≡ headed version (codes "net " ++ name) → RefusesPairs project version name bytes
  no_grammar : Defines project name → ((g : Grammar Leaf) → ¬ HasGrammar project name g) → bytes ≡ headed version (codes "kind " ++ name) → RefusesPairs project version name bytes
