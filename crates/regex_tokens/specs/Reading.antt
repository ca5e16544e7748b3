-- Words for what the functions of this crate compute on their way to the tokens of a text.
use Rattle.std.specs.Prelude.{◌≡◌, ◌≤◌, ℕ, Bool, true, false, not, ◌&&◌, ◌||◌, ◌==◌, ◌+◌, nat_eq, List, [], ◌∷◌, ◌++◌, take, drop, length, if◌then◌else◌, Option, Some, None, MatchOption, IsTrue}
use Rattle.std.specs.List.{list_all, prefix_len, starts_with}
use Rattle.std.specs.Str.{IsCharBoundary}
use Rattle.regex_tokens.specs.Bytes.{begins, is_blank, begins_comment, is_escapable, is_run_byte, is_quoted_byte, is_braced_byte}
use Rattle.regex_tokens.specs.Spelling.{Piece, is_piece, written, spelling, Spells}
use Rattle.regex_tokens.specs.Cuts.{IsLongest, IsFirst, HasNoFirst}
use Rattle.regex_tokens.specs.declared.comments.Comments.{Comments}
use Rattle.regex_tokens.specs.declared.bytes.ByteClass.{ByteClass}
use Rattle.regex_tokens.specs.declared.bytes.ByteClass.TheVariants.{Blank, Line, Run, Quoted, Braced, Feature}
use Rattle.regex_tokens.specs.declared.token.Operator.{Operator}
use Rattle.regex_tokens.specs.declared.token.Operator.TheVariants.{OpenSquare, CloseSquare, OpenRound, CloseRound, Optional, Arrow, LeftLongest, LeftShortest, RightLongest, RightShortest, Only, UpUp, Bar, LowUp, Slash, UpLow, LowLow, Backslash, Ampersand, Minus, Tilde, Dollar, Star, Plus, Caret, Colon, Semicolon, GroupComma, Comma, Question, Underscore, Dots, CrossWith, Then, Upper, Lower, Inverse, Reverse, Edge, Insertion}
use Rattle.regex_tokens.specs.declared.token.Token.{Token}
use Rattle.regex_tokens.specs.declared.token.Token.TheVariants.{Operator as operator, Quoted as quoted, Braced as braced, Run as run}

-- a byte of a flag's feature or value: no blank, no `.`, no `@`
abbrev pub is_feature_byte : ℕ → Bool
is_feature_byte b = not (is_blank b || (b == 46 || b == 64))

abbrev pub is_of : ByteClass → ℕ → Bool
is_of Blank = is_blank
is_of Line = λ b. not (b == 10)
is_of Run = is_run_byte
is_of Quoted = is_quoted_byte
is_of Braced = is_braced_byte
is_of Feature = is_feature_byte

-- the elements at the front that pass, and what is behind them
abbrev pub taken : {X : Type 0} → (X → Bool) → List X → List X
taken p [] = []
taken p (x ∷ xs) = if p x then x ∷ taken p xs else []

abbrev pub left : {X : Type 0} → (X → Bool) → List X → List X
left p [] = []
left p (x ∷ xs) = if p x then left p xs else x ∷ xs

-- Flags.

-- `P`, `U`, `R`, `D` and `N`
abbrev pub has_value : ℕ → Bool
has_value k = k == 80 || (k == 85 || (k == 82 || (k == 68 || k == 78)))

-- `C`, `R` and `D`
abbrev pub has_no_value : ℕ → Bool
has_no_value k = k == 67 || (k == 82 || k == 68)

abbrev pub is_at : List ℕ → Bool
is_at [] = false
is_at (c ∷ rest) = c == 64 && length rest == 0

abbrev pub is_value : List ℕ → Bool
is_value text = not (length (taken is_feature_byte text) == 0) && is_at (left is_feature_byte text)

abbrev pub is_behind_feature : ℕ → List ℕ → Bool
is_behind_feature k [] = false
is_behind_feature k (c ∷ rest) = (c == 64 && (has_no_value k && length rest == 0)) || (c == 46 && (has_value k && is_value rest))

abbrev pub is_behind_kind : ℕ → List ℕ → Bool
is_behind_kind k text = not (length (taken is_feature_byte text) == 0) && is_behind_feature k (left is_feature_byte text)

-- `@X.F.V@` or `@X.F@`
abbrev pub is_flag : List ℕ → Bool
is_flag [] = false
is_flag (a ∷ []) = false
is_flag (a ∷ k ∷ []) = false
is_flag (a ∷ k ∷ dot ∷ rest) = a == 64 && (dot == 46 && is_behind_kind k rest)

abbrev pub is_refused : Token → Bool
is_refused (operator o) = false
is_refused (quoted text) = is_flag text
is_refused (braced characters) = false
is_refused (run r) = is_flag r.text

-- Escapes.

-- the length of the piece at the front; 0 where none is
abbrev pub piece_len : (ℕ → Bool) → List ℕ → ℕ
piece_len may_stand [] = 0
piece_len may_stand (b ∷ bs) = if may_stand b then 1 else if b == 37 && begins is_escapable bs then 2 else 0

-- so many bytes at the front are pieces, and no piece is behind them
pub record IsPiecesLen (may_stand : ℕ → Bool) (text : List ℕ) (n : ℕ) : Type 0 where
  pub pieces : List Piece
  pub fine : IsTrue (list_all (is_piece may_stand) pieces)
  pub spelled : written pieces ≡ take n text
  pub within : n ≤ length text
  pub stops : piece_len may_stand (drop n text) ≡ 0

-- the text without its escapes; `inside` says whether the text begins behind one
abbrev pub undone_from : Bool → List ℕ → List ℕ
undone_from inside [] = []
undone_from false (b ∷ bs) = if b == 37 then undone_from true bs else b ∷ undone_from false bs
undone_from true (b ∷ bs) = b ∷ undone_from false bs

-- Gaps.

-- the length of the blank or comment in front
abbrev pub gap_step : Comments → List ℕ → Option ℕ
gap_step marks [] = None
gap_step marks (b ∷ bs) = if is_blank b then Some 1 else if begins_comment marks b then Some (prefix_len (λ c. not (c == 10)) (b ∷ bs)) else None

-- Operators.

-- the operators, none behind one that is shorter
abbrev pub longest_first : List Operator
longest_first =
    Optional ∷ Insertion ∷ Dots ∷ CrossWith ∷ Then ∷ Edge ∷ LeftLongest ∷ RightLongest ∷ Arrow ∷ Only ∷ UpUp ∷ LowUp ∷ UpLow ∷ LowLow ∷ GroupComma
    ∷ LeftShortest ∷ RightShortest ∷ Upper ∷ Lower ∷ Inverse ∷ Reverse ∷ OpenSquare ∷ CloseSquare ∷ OpenRound ∷ CloseRound ∷ Bar ∷ Slash ∷ Backslash
    ∷ Ampersand ∷ Minus ∷ Tilde ∷ Dollar ∷ Star ∷ Plus ∷ Caret ∷ Colon ∷ Semicolon ∷ Comma ∷ Question ∷ Underscore ∷ []

-- the first of the operators that the text begins with
abbrev pub first_of : List Operator → List ℕ → Option Operator
first_of [] text = None
first_of (o ∷ more) text = if starts_with nat_eq text (spelling o) then Some o else first_of more text

abbrev pub closes : List ℕ → Bool
closes [] = false
closes (a ∷ []) = false
closes (a ∷ b ∷ rest) = a == 46 && b == 93

-- the length of `[.`, one or more blanks and `.]` where they stand in front, by what is behind `[.`
abbrev pub spaced_by : List ℕ → Option ℕ
spaced_by inner = if not (length (taken is_blank inner) == 0) && closes (left is_blank inner) then Some (length (taken is_blank inner) + 4) else None

abbrev pub spaced_at : List ℕ → Option ℕ
spaced_at [] = None
spaced_at (a ∷ []) = None
spaced_at (a ∷ b ∷ inner) = if a == 91 && b == 46 then spaced_by inner else None

-- Tokens.

-- no token is spelled by a front of the text
abbrev pub HasNone : List ℕ → Type 0
HasNone text = (token : Token) (front rest : List ℕ) → text ≡ front ++ rest → Spells token front → ⊥

-- the longest token and the number of its bytes, where there is one
abbrev pub IsRead : List ℕ → Option (Token × ℕ) → Type 0
IsRead text read = MatchOption read (HasNone text) (λ x. IsLongest text x.0 (take x.1 text) (drop x.1 text) × IsCharBoundary text x.1)

-- the text's first token and the number of its bytes, where there is one
abbrev pub IsTaken : List ℕ → Option (Token × ℕ) → Type 0
IsTaken text read = MatchOption read (HasNoFirst text) (λ x. IsFirst text x.0 (take x.1 text) (drop x.1 text) × IsCharBoundary text x.1)
