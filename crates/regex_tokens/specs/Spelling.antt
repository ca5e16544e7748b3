-- How the tokens of an xfst text are spelled (Beesley and Karttunen, Finite State Morphology, 2003, chapters 2
-- and 3). Texts are lists of bytes.
use Rattle.std.specs.Prelude.{◌≡◌, ℕ, Bool, true, false, IsTrue, ◌⊎◌, List, [], ◌∷◌, ◌++◌, codes}
use Rattle.std.specs.List.{list_any, list_all, concat}
use Rattle.regex_tokens.specs.Bytes.{is_blank, is_run_byte, is_escapable, is_quoted_byte, is_braced_byte, is_character}
use Rattle.regex_tokens.specs.declared.token.Run.{Run}
use Rattle.regex_tokens.specs.declared.token.Operator.{Operator}
use Rattle.regex_tokens.specs.declared.token.Operator.TheVariants.{OpenSquare, CloseSquare, OpenRound, CloseRound, Optional, Arrow, LeftLongest, LeftShortest, RightLongest, RightShortest, Only, UpUp, Bar, LowUp, Slash, UpLow, LowLow, Backslash, Ampersand, Minus, Tilde, Dollar, Star, Plus, Caret, Colon, Semicolon, GroupComma, Comma, Question, Underscore, Dots, CrossWith, Then, Upper, Lower, Inverse, Reverse, Edge, Insertion}
use Rattle.regex_tokens.specs.declared.token.Token.{Token}
use Rattle.regex_tokens.specs.declared.token.Token.TheVariants.{Operator as operator, Quoted as quoted, Braced as braced, Run as run}

-- how an operator is spelled, with no blanks
abbrev pub spelling : Operator → List ℕ
spelling OpenSquare = codes "["
spelling CloseSquare = codes "]"
spelling OpenRound = codes "("
spelling CloseRound = codes ")"
spelling Optional = codes "(->)"
spelling Arrow = codes "->"
spelling LeftLongest = codes "@->"
spelling LeftShortest = codes "@>"
spelling RightLongest = codes "->@"
spelling RightShortest = codes ">@"
spelling Only = codes "=>"
spelling UpUp = codes "||"
spelling Bar = codes "|"
spelling LowUp = codes "//"
spelling Slash = codes "/"
spelling UpLow = codes "\\\\"
spelling LowLow = codes "\\/"
spelling Backslash = codes "\\"
spelling Ampersand = codes "&"
spelling Minus = codes "-"
spelling Tilde = codes "~"
spelling Dollar = codes "$"
spelling Star = codes "*"
spelling Plus = codes "+"
spelling Caret = codes "^"
spelling Colon = codes ":"
spelling Semicolon = codes ";"
spelling GroupComma = codes ",,"
spelling Comma = codes ","
spelling Question = codes "?"
spelling Underscore = codes "_"
spelling Dots = codes "..."
spelling CrossWith = codes ".x."
spelling Then = codes ".o."
spelling Upper = codes ".u"
spelling Lower = codes ".l"
spelling Inverse = codes ".i"
spelling Reverse = codes ".r"
spelling Edge = codes ".#."
spelling Insertion = codes "[..]"

-- `[.`, one or more blanks, `.]`
abbrev pub IsSpaced : Operator → List ℕ → Type 0
IsSpaced Insertion bytes = (blank : ℕ) × (more : List ℕ) × IsTrue (list_all is_blank (blank ∷ more)) × (bytes ≡ codes "[." ++ (blank ∷ more) ++ codes ".]")
IsSpaced _ bytes = ⊥

-- a byte as it stands, or one behind the escape `%`, which is taken as it is
pub data Piece : Type 0 where
  plain : ℕ → Piece
  escaped : ℕ → Piece

-- a piece whose byte may stand there, with or without an escape
abbrev pub is_piece : (ℕ → Bool) → Piece → Bool
is_piece may_stand (plain b) = may_stand b
is_piece may_stand (escaped b) = is_escapable b

abbrev pub is_escape : Piece → Bool
is_escape (plain b) = false
is_escape (escaped b) = true

-- how pieces are written
abbrev pub written : List Piece → List ℕ
written [] = []
written (plain b ∷ more) = b ∷ written more
written (escaped b ∷ more) = 37 ∷ b ∷ written more

-- what they stand for
abbrev pub meant : List Piece → List ℕ
meant [] = []
meant (plain b ∷ more) = b ∷ meant more
meant (escaped b ∷ more) = b ∷ meant more

-- a quoted text stands between quotes, with no escapes
abbrev pub IsQuoted : List ℕ → List ℕ → Type 0
IsQuoted text bytes = IsTrue (list_all is_quoted_byte text) × (bytes ≡ 34 ∷ text ++ 34 ∷ [])

-- characters stand between braces, escaped or not
pub record IsBraced (characters : List (List ℕ)) (bytes : List ℕ) : Type 0 where
  pub pieces : List Piece
  pub fine : IsTrue (list_all (is_piece is_braced_byte) pieces)
  pub spelled : bytes ≡ 123 ∷ written pieces ++ 125 ∷ []
  pub apart : IsTrue (list_all is_character characters)
  pub same : concat characters ≡ meant pieces

-- a run has one or more pieces
pub record IsRun (run : Run) (bytes : List ℕ) : Type 0 where
  pub first : Piece
  pub more : List Piece
  pub fine : IsTrue (list_all (is_piece is_run_byte) (first ∷ more))
  pub spelled : bytes ≡ written (first ∷ more)
  pub text : run.text ≡ meant (first ∷ more)
  pub escaped : run.escaped ≡ list_any is_escape (first ∷ more)

-- the bytes are a spelling of the token
abbrev pub Spells : Token → List ℕ → Type 0
Spells (operator o) bytes = (bytes ≡ spelling o) ⊎ IsSpaced o bytes
Spells (quoted text) bytes = IsQuoted text bytes
Spells (braced characters) bytes = IsBraced characters bytes
Spells (run r) bytes = IsRun r bytes
