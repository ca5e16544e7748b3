-- Words for what the functions of this crate compute on their way to the tokens of a text.
use Rattle.std.specs.Prelude.{◌≡◌, ◌<◌, ◌≤◌, ◌+◌, ◌==◌, ℕ, Bool, false, true, not, nat_eq, ◌⊎◌, List, [], ◌∷◌, ◌++◌, take, drop, length, if◌then◌else◌, Option, None, Some, MatchOption}
use Rattle.std.specs.List.{starts_with}
use Rattle.std.specs.Str.{IsUtf8, IsCharBoundary}
use Rattle.regex_ast.specs.declared.twolc.RuleKind.TheVariants.{Only, Must, Both, Never}
use Rattle.regex_tokens.specs.Bytes.{begins, is_quoted_byte}
use Rattle.regex_tokens.specs.Reading.{IsPiecesLen}
use Rattle.twolc_tokens.specs.Spelling.{is_run_byte, spelling, sides_of, IsAtom, Spells}
use Rattle.twolc_tokens.specs.Cuts.{IsLongest, IsFirst, HasNoFirst}
use Rattle.twolc_tokens.specs.declared.bytes.ByteClass.{ByteClass}
use Rattle.twolc_tokens.specs.declared.bytes.ByteClass.TheVariants.{Line, Quoted}
use Rattle.twolc_tokens.specs.declared.token.Operator.{Operator}
use Rattle.twolc_tokens.specs.declared.token.Operator.TheVariants.{OpenSquare, CloseSquare, OpenRound, CloseRound, Bar, Ampersand, Minus, Slash, Arrow, Tilde, Backslash, Dollar, Star, Plus, Caret, Question, Edge, Semicolon, Underscore, Equals}
use Rattle.twolc_tokens.specs.declared.token.Token.{Token}

abbrev pub is_of : ByteClass → ℕ → Bool
is_of Line = λ b. not (b == 10)
is_of Quoted = is_quoted_byte

-- the place of the first `:` that no `%` escapes
abbrev pub IsColon : List ℕ → Option ℕ → Type 0
IsColon atom None = sides_of atom ≡ None
IsColon atom (Some n) = (sides_of atom ≡ Some (take n atom, drop (n + 1) atom)) × (drop n atom ≡ 58 ∷ drop (n + 1) atom) × (n ≤ length atom)

-- the number of the bytes of `?` or a run at the front
abbrev pub IsSideLen : List ℕ → ℕ → Type 0
IsSideLen text n = ((begins (λ b. b == 63) text ≡ true) × (n ≡ 1)) ⊎ ((begins (λ b. b == 63) text ≡ false) × IsPiecesLen is_run_byte text n)

abbrev pub HasNoAtom : List ℕ → Type 0
HasNoAtom text = (longer behind : List ℕ) → text ≡ longer ++ behind → IsAtom longer → ⊥

-- the number of the bytes of the longest atom at the front, 0 where there is none
pub record IsAtomLen (text : List ℕ) (n : ℕ) : Type 0 where
  pub within : n ≤ length text
  pub is : 0 < n → IsAtom (take n text)
  pub longest : (longer behind : List ℕ) → text ≡ longer ++ behind → IsAtom longer → length longer ≤ n
  pub utf8 : 0 < n → IsUtf8 text → IsUtf8 (drop n text)

-- the operators, none behind one that is shorter
abbrev pub longest_first : List Operator
longest_first =
    Edge ∷ Arrow Both ∷ Arrow Never ∷ Arrow Only ∷ Arrow Must ∷ OpenSquare ∷ CloseSquare ∷ OpenRound ∷ CloseRound ∷ Bar ∷ Ampersand
    ∷ Minus ∷ Slash ∷ Tilde ∷ Backslash ∷ Dollar ∷ Star ∷ Plus ∷ Caret ∷ Question ∷ Semicolon ∷ Underscore ∷ Equals ∷ []

-- the first of the operators that the text begins with
abbrev pub first_of : List Operator → List ℕ → Option Operator
first_of [] text = None
first_of (o ∷ more) text = if starts_with nat_eq text (spelling o) then Some o else first_of more text

-- no token is spelled by a front of the text
abbrev pub HasNone : List ℕ → Type 0
HasNone text = (token : Token) (front rest : List ℕ) → text ≡ front ++ rest → Spells token front → ⊥

-- the longest token and the number of its bytes, where there is one
abbrev pub IsRead : List ℕ → Option (Token × ℕ) → Type 0
IsRead text read = MatchOption read (HasNone text) (λ x. IsLongest text x.0 (take x.1 text) (drop x.1 text) × IsCharBoundary text x.1)

-- the text's first token and the number of its bytes, where there is one
abbrev pub IsTaken : List ℕ → Option (Token × ℕ) → Type 0
IsTaken text read = MatchOption read (HasNoFirst text) (λ x. IsFirst text x.0 (take x.1 text) (drop x.1 text) × IsCharBoundary text x.1)
