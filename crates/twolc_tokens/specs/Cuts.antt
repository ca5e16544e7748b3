-- The cut of a twolc text into tokens: at each place the longest token is taken, behind the blanks and comments that stand there.
-- A comment goes from `!` to the end of its line.
use Rattle.std.specs.Prelude.{◌≡◌, ◌≢◌, ◌≤◌, ◌+◌, ℕ, false, ◌⊎◌, List, [], ◌∷◌, ◌++◌, length, Option, None, Some}
use Rattle.regex_ast.specs.Flags.{IsFlag}
use Rattle.regex_tokens.specs.Cuts.{gap, behind_gap, newlines}
use Rattle.regex_tokens.specs.Reading.{undone_from}
use Rattle.regex_tokens.specs.declared.comments.Comments.TheVariants.{OfEntries}
use Rattle.regex_tokens.specs.declared.token.Ending.{Ending}
use Rattle.regex_tokens.specs.declared.token.Ending.TheVariants.{Whole, NoToken}
use Rattle.twolc_tokens.specs.Spelling.{sides_of, Spells}
use Rattle.twolc_tokens.specs.declared.token.Placed.{Placed}
use Rattle.twolc_tokens.specs.declared.token.Token.{Token}
use Rattle.twolc_tokens.specs.declared.token.Token.TheVariants.{Operator as operator, Quoted as quoted, Atom as atom}

-- a run, its escapes undone, is a flag diacritic
abbrev pub IsFlagRun : List ℕ → Type 0
IsFlagRun run = IsFlag (undone_from false run)

-- a side of an atom is a flag, or the run that it is
abbrev pub HasFlag : List ℕ → Option (List ℕ × List ℕ) → Type 0
HasFlag bytes None = IsFlagRun bytes
HasFlag bytes (Some sides) = IsFlagRun sides.0 ⊎ IsFlagRun sides.1

-- an atom with a flag is no token
abbrev pub IsRefused : Token → Type 0
IsRefused (operator o) = ⊥
IsRefused (quoted text) = ⊥
IsRefused (atom text) = HasFlag text (sides_of text)

-- the longest token that is spelled by a front of the text, which these bytes are
pub record IsLongest (text : List ℕ) (token : Token) (front rest : List ℕ) : Type 0 where
  pub stands : text ≡ front ++ rest
  pub spelled : Spells token front
  pub longest : (other : Token) (longer behind : List ℕ) → text ≡ longer ++ behind → Spells other longer → length longer ≤ length front

-- the text's first token is the longest one, which is then refused where it has a flag, whatever a shorter front may spell
pub record IsFirst (text : List ℕ) (token : Token) (front rest : List ℕ) : Type 0 where
  pub longest : IsLongest text token front rest
  pub taken : IsRefused token → ⊥

abbrev pub HasNoFirst : List ℕ → Type 0
HasNoFirst text = (token : Token) (front rest : List ℕ) → IsFirst text token front rest → ⊥

-- a text that begins in this line has these tokens, and they end so: with the text, or at a place where none begins
abbrev pub Cuts : ℕ → List ℕ → List Placed → Ending → Type 0
Cuts line text [] Whole = behind_gap OfEntries text ≡ []
Cuts line text [] (NoToken at) = (behind_gap OfEntries text ≢ []) × HasNoFirst (behind_gap OfEntries text) × (at ≡ line + newlines (gap OfEntries text))
Cuts line text (placed ∷ more) ending =
    (front : List ℕ) × (rest : List ℕ) × IsFirst (behind_gap OfEntries text) placed.token front rest
    × (placed.line ≡ line + newlines (gap OfEntries text)) × Cuts placed.line rest more ending

-- a text is cut in one way
abbrev pub HasOneCut : Type 0
HasOneCut = (line : ℕ) (text : List ℕ) (tokens others : List Placed) (ending other : Ending) → Cuts line text tokens ending → Cuts line text others other → (tokens ≡ others) × (ending ≡ other)
