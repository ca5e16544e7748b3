-- How the tokens of a twolc text are spelled (Karttunen and Beesley, Two-Level Rule Compiler, 1992). Texts are lists of bytes in
-- UTF-8 (RFC 3629).
use Rattle.std.specs.Prelude.{◌≡◌, ℕ, Bool, true, false, not, ◌&&◌, ◌==◌, IsTrue, ◌⊎◌, List, [], ◌∷◌, ◌++◌, codes, Option, None, Some, cond}
use Rattle.std.specs.List.{list_any, list_all}
use Rattle.std.specs.Option.{option_map}
use Rattle.regex_ast.specs.declared.twolc.RuleKind.TheVariants.{Only, Must, Both, Never}
use Rattle.regex_tokens.specs.Bytes.{is_blank}
use Rattle.regex_tokens.specs.Spelling.{Piece, is_piece, written, meant, IsQuoted}
use Rattle.twolc_tokens.specs.declared.token.Operator.{Operator}
use Rattle.twolc_tokens.specs.declared.token.Operator.TheVariants.{OpenSquare, CloseSquare, OpenRound, CloseRound, Bar, Ampersand, Minus, Slash, Arrow, Tilde, Backslash, Dollar, Star, Plus, Caret, Question, Edge, Semicolon, Underscore, Equals}
use Rattle.twolc_tokens.specs.declared.token.Token.{Token}
use Rattle.twolc_tokens.specs.declared.token.Token.TheVariants.{Operator as operator, Quoted as quoted, Atom as atom}

-- how an operator is spelled
abbrev pub spelling : Operator → List ℕ
spelling OpenSquare = codes "["
spelling CloseSquare = codes "]"
spelling OpenRound = codes "("
spelling CloseRound = codes ")"
spelling Bar = codes "|"
spelling Ampersand = codes "&"
spelling Minus = codes "-"
spelling Slash = codes "/"
spelling (Arrow Only) = codes "=>"
spelling (Arrow Must) = codes "<="
spelling (Arrow Both) = codes "<=>"
spelling (Arrow Never) = codes "/<="
spelling Tilde = codes "~"
spelling Backslash = codes "\\"
spelling Dollar = codes "$"
spelling Star = codes "*"
spelling Plus = codes "+"
spelling Caret = codes "^"
spelling Question = codes "?"
spelling Edge = codes ".#."
spelling Semicolon = codes ";"
spelling Underscore = codes "_"
spelling Equals = codes "="

-- operators, brackets, what begins a comment, quotes and the escape `%`
abbrev pub special : List ℕ
special = codes "[]()|/\\&-~$*+^:;_.<>=!\"%?"

-- a byte of a run: any but blanks and the special ones, so each byte of a character above U+007F too
abbrev pub is_run_byte : ℕ → Bool
is_run_byte b = not (is_blank b) && not (list_any (λ s. s == b) special)

-- a run: one or more pieces, which are bytes as they stand, or behind the escape `%`
pub record IsRun (bytes text : List ℕ) : Type 0 where
  pub first : Piece
  pub more : List Piece
  pub fine : IsTrue (list_all (is_piece is_run_byte) (first ∷ more))
  pub spelled : bytes ≡ written (first ∷ more)
  pub text_is : text ≡ meant (first ∷ more)

-- a side of an atom: a run or `?`
abbrev pub IsSide : List ℕ → Type 0
IsSide bytes = ((text : List ℕ) × IsRun bytes text) ⊎ (bytes ≡ codes "?")

-- a side that may be left out
abbrev pub MayBeSide : List ℕ → Type 0
MayBeSide bytes = (bytes ≡ []) ⊎ IsSide bytes

-- `X`, where X is a run; or a `:` with a side before and behind it, either of which may be left out, and with no blank
abbrev pub IsAtom : List ℕ → Type 0
IsAtom bytes =
    ((text : List ℕ) × IsRun bytes text)
    ⊎ ((up : List ℕ) × (low : List ℕ) × (bytes ≡ up ++ (codes ":" ++ low)) × MayBeSide up × MayBeSide low)

-- the bytes are a spelling of the token
abbrev pub Spells : Token → List ℕ → Type 0
Spells (operator o) bytes = bytes ≡ spelling o
Spells (quoted text) bytes = IsQuoted text bytes
Spells (atom text) bytes = IsAtom bytes × (text ≡ bytes)

-- the parts of an atom before and behind its `:`, which no `%` escapes, where it has one
abbrev pub before_byte : ℕ → Option (List ℕ × List ℕ) → Option (List ℕ × List ℕ)
before_byte b parts = option_map (λ p. (b ∷ p.0, p.1)) parts

abbrev pub split_from : Bool → List ℕ → Option (List ℕ × List ℕ)
split_from escaped [] = None
split_from true (b ∷ bs) = before_byte b (split_from false bs)
split_from false (b ∷ bs) = cond (b == 58) (Some ([], bs)) (before_byte b (split_from (b == 37) bs))

abbrev pub sides_of : List ℕ → Option (List ℕ × List ℕ)
sides_of bytes = split_from false bytes
