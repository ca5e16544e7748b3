-- What the functions of this crate answer on their way to the next token.
use Rattle.std.specs.Prelude.{◌≡◌, ◌<◌, ◌≤◌, ◌+◌, ◌==◌, ◌||◌, ℕ, Bool, not, List, [], length, drop, if◌then◌else◌}
use Rattle.regex_tokens.specs.Bytes.{is_blank}
use Rattle.regex_tokens.specs.Cuts.{newlines}
use Rattle.lexc_tokens.specs.Tokens.{Stands, Follows, NoneFollows, behind_blanks}
use Rattle.lexc_tokens.specs.declared.token.Token.{Token}
use Rattle.lexc_tokens.specs.declared.scanning.Next.{Next}
use Rattle.lexc_tokens.specs.declared.scanning.Next.TheVariants.{End, NoToken, Found}

-- whether a character stands in a gap, and whether what is behind it is in a comment, by whether it is in one itself
abbrev pub is_in_gap : Bool → ℕ → Bool
is_in_gap inside c = inside || (is_blank c || c == 33)

abbrev pub is_in_comment : Bool → ℕ → Bool
is_in_comment inside c = if inside then not (c == 10) else c == 33

-- so many characters are the blanks and comments in front
pub record IsGapLen (text : List ℕ) (n : ℕ) : Type 0 where
  pub within : n ≤ length text
  pub behind : drop n text ≡ behind_blanks text

-- this token begins the text with so many characters
pub record IsTokenFront (opens : Bool) (text : List ℕ) (token : Token) (n : ℕ) : Type 0 where
  pub some : 0 < n
  pub within : n ≤ length text
  pub stands : Stands opens text token (drop n text)

-- what comes next in a text that begins in this line. A line is told by the newlines that are left
abbrev pub IsNext : Bool → ℕ → List ℕ → Next → Type 0
IsNext opens line text End = behind_blanks text ≡ []
IsNext opens line text (NoToken at) = NoneFollows opens text × (at + newlines (behind_blanks text) ≡ line + newlines text)
IsNext opens line text (Found f) =
    (0 < f.len) × (f.len ≤ length text) × Follows opens text f.token (drop f.len text)
    × (f.line + newlines (behind_blanks text) ≡ line + newlines text) × (f.behind + newlines (drop f.len text) ≡ line + newlines text)
