-- What a text says: its definitions, or its first fault (Beesley and Karttunen, Finite State Morphology, 2003, chapter 3, on
-- scripts of `define` commands). A text is a sequence of statements `define NAME EXPRESSION ;`. Statement by statement
-- a place without a token is tried first, then the depth of brackets, the form, and the limits of powers and rules.
use Rattle.std.specs.Prelude.{◌≡◌, ◌≢◌, ◌++◌, ℕ, Bool, true, false, not, ◌&&◌, ◌||◌, nat_le, nat_lt, List, [], ◌∷◌, map, codes, Some, Result, Ok, Err}
use Rattle.std.specs.List.{list_all, list_any}
use Rattle.fsm_base.specs.Cut.{characters}
use Rattle.regex_ast.specs.Terms.{Term, term}
use Rattle.regex_ast.specs.declared.expr.Raw.{Raw}
use Rattle.regex_ast.specs.declared.expr.Define.{Define}
use Rattle.regex_ast.specs.declared.fault.Why.{Why}
use Rattle.regex_ast.specs.declared.fault.Why.TheVariants as why
use Rattle.regex_tokens.specs.Bytes.{begins}
use Rattle.regex_tokens.specs.Cuts.{Cuts}
use Rattle.regex_tokens.specs.declared.comments.Comments.TheVariants.{OfDefinitions, OfEntries}
use Rattle.regex_tokens.specs.declared.token.Ending.{Ending}
use Rattle.regex_tokens.specs.declared.token.Ending.TheVariants.{Whole, NoToken}
use Rattle.regex_tokens.specs.declared.token.Operator.TheVariants.{OpenSquare, CloseSquare, OpenRound, CloseRound, Semicolon, Arrow, Optional, LeftLongest, LeftShortest, RightLongest, RightShortest, Only}
use Rattle.regex_tokens.specs.declared.token.Place.{Place}
use Rattle.regex_tokens.specs.declared.token.Token.{Token}
use Rattle.regex_tokens.specs.declared.token.Token.TheVariants.{Operator as operator, Run as run}
use Rattle.regex_grammar.specs.Whole.{IsReading}
use Rattle.regex_reader.specs.Tests.{nodes, is_misplaced, has_high_power, has_large_rule}
use Rattle.regex_reader.specs.Brackets.{nests_too_deep}
use Rattle.regex_reader.specs.Limits.{most_characters}
use Rattle.regex_reader.specs.declared.brackets.Bracket.{Bracket}
use Rattle.regex_reader.specs.declared.brackets.Bracket.TheVariants.{Opening, Closing, Neither}

-- what a statement says: the line of its first token, counted from 1, the name and what it stands for
pub record Statement : Type 0 where
  pub line : ℕ
  pub name : List ℕ
  pub term : Term Raw

abbrev pub statement_of : Define Raw → Statement
statement_of define = record { line = define.line; name = define.name; term = term define.expr }

-- a token and where it stands
pub record Placed : Type 0 where
  pub token : Token
  pub place : Place

abbrev pub tokens_of : List Placed → List Token
tokens_of placed = map (λ p. p.token) placed

abbrev pub places_of : List Placed → List Place
places_of placed = map (λ p. p.place) placed

-- Brackets.

-- what a token is among them
abbrev pub bracket_of : Token → Bracket
bracket_of (operator OpenSquare) = Opening
bracket_of (operator OpenRound) = Opening
bracket_of (operator CloseSquare) = Closing
bracket_of (operator CloseRound) = Closing
bracket_of _ = Neither

-- a token stands inside more open brackets than may be, where so many are open before the tokens
abbrev pub is_too_deep : ℕ → List Token → Bool
is_too_deep count tokens = nests_too_deep count (map bracket_of tokens)

-- Names.

abbrev pub is_letter : ℕ → Bool
is_letter b = (nat_lt 64 b && nat_lt b 91) || (nat_lt 96 b && nat_lt b 123)

abbrev pub is_digit : ℕ → Bool
is_digit b = nat_lt 47 b && nat_lt b 58

abbrev pub begins_with_digit : List ℕ → Bool
begins_with_digit [] = false
begins_with_digit (b ∷ bs) = is_digit b

-- a character or more, but not too many, each an ASCII letter or digit or a character above U+007F, the first no digit
abbrev pub is_name : List ℕ → Bool
is_name text = nat_lt 0 (characters text) && (nat_le (characters text) most_characters && (not (begins_with_digit text) && list_all (λ b. is_letter b || (is_digit b || nat_le 128 b)) text))

-- Statements.

abbrev pub plain_run : List ℕ → Token
plain_run text = run (record { text = text; escaped = false })

abbrev pub is_round : Token → Bool
is_round (operator OpenRound) = true
is_round _ = false

-- a `(` with no blank before it
abbrev pub is_joined_round : Placed → Bool
is_joined_round p = is_round p.token && not p.place.apart

abbrev pub is_semicolon : Token → Bool
is_semicolon (operator Semicolon) = true
is_semicolon _ = false

abbrev pub first_line : List Placed → ℕ
first_line [] = 0
first_line (p ∷ ps) = p.place.line

-- The tokens are `define`, this name, these tokens and `;`. A `(` that follows the name without a blank would be a
-- list of parameters, which definitions don't have.
pub record IsForm (placed : List Placed) (named : List ℕ) (expression : List Placed) : Type 0 where
  pub command : Placed
  pub name : Placed
  pub last : Placed
  pub whole : placed ≡ command ∷ name ∷ expression ++ last ∷ []
  pub command_is : command.token ≡ plain_run (codes "define")
  pub name_is : name.token ≡ plain_run named
  pub last_is : last.token ≡ operator Semicolon
  pub fine : is_name named ≡ true
  pub no_parameters : begins is_joined_round expression ≡ false

-- the tokens are a statement that says this
pub record IsStatement (placed : List Placed) (s : Statement) : Type 0 where
  pub expression : List Placed
  pub form : IsForm placed s.name expression
  pub reads : IsReading (tokens_of expression) (Some s.term)
  pub edges : list_any is_misplaced (nodes false s.term) ≡ false
  pub line : s.line ≡ first_line placed

-- what is found in the tokens of one statement: what it says, or why it is refused
pub data Verdict (placed : List Placed) : Result Statement Why → Type 0 where
  deep : is_too_deep 0 (tokens_of placed) ≡ true → Verdict placed (Err why.LimitNesting)
  unread : is_too_deep 0 (tokens_of placed) ≡ false → ((s : Statement) → IsStatement placed s → ⊥) → Verdict placed (Err why.Statement)
  power : (s : Statement) → is_too_deep 0 (tokens_of placed) ≡ false → IsStatement placed s → list_any has_high_power (nodes false s.term) ≡ true → Verdict placed (Err why.LimitPower)
  rule : (s : Statement) → is_too_deep 0 (tokens_of placed) ≡ false → IsStatement placed s → list_any has_high_power (nodes false s.term) ≡ false → list_any has_large_rule (nodes false s.term) ≡ true → Verdict placed (Err why.LimitRule)
  fine : (s : Statement) → is_too_deep 0 (tokens_of placed) ≡ false → IsStatement placed s → list_any has_high_power (nodes false s.term) ≡ false → list_any has_large_rule (nodes false s.term) ≡ false → Verdict placed (Ok s)

-- the tokens of one statement, to its `;`
pub record IsOne (placed : List Placed) : Type 0 where
  pub front : List Placed
  pub last : Placed
  pub whole : placed ≡ front ++ last ∷ []
  pub front_is : list_any is_semicolon (tokens_of front) ≡ false
  pub last_is : last.token ≡ operator Semicolon

-- a fault and its line
pub record FaultAt : Type 0 where
  pub line : ℕ
  pub why : Why

-- What the tokens say that end so: their statements in order, or the first fault. Behind the last `;` a place without
-- a token is the fault, or else that a statement isn't ended.
pub data Says : List Placed → Ending → Result (List Statement) FaultAt → Type 0 where
  nothing : Says [] Whole (Ok [])
  no_token : (placed : List Placed) (line : ℕ) → list_any is_semicolon (tokens_of placed) ≡ false → Says placed (NoToken line) (Err (record { line = line; why = why.Token }))
  unended : (placed : List Placed) (why : Why) → placed ≢ [] → list_any is_semicolon (tokens_of placed) ≡ false → Verdict placed (Err why) → Says placed Whole (Err (record { line = first_line placed; why = why }))
  read : (one rest : List Placed) (ending : Ending) (s : Statement) (more : List Statement) → IsOne one → Verdict one (Ok s) → Says rest ending (Ok more) → Says (one ++ rest) ending (Ok (s ∷ more))
  later : (one rest : List Placed) (ending : Ending) (s : Statement) (fault : FaultAt) → IsOne one → Verdict one (Ok s) → Says rest ending (Err fault) → Says (one ++ rest) ending (Err fault)
  refused : (one rest : List Placed) (ending : Ending) (why : Why) → IsOne one → Verdict one (Err why) → Says (one ++ rest) ending (Err (record { line = first_line one; why = why }))

-- what a file says
pub record ReadsAs (text : List ℕ) (answer : Result (List Statement) FaultAt) : Type 0 where
  pub placed : List Placed
  pub ending : Ending
  pub cut : Cuts OfDefinitions 1 text (tokens_of placed) (places_of placed) ending
  pub says : Says placed ending answer

-- Expressions alone, in an entry of a lexicon: levels 1 to 8 and 10. Neither an arrow nor `=>` stands there.

abbrev pub is_ruling : Token → Bool
is_ruling (operator Arrow) = true
is_ruling (operator Optional) = true
is_ruling (operator LeftLongest) = true
is_ruling (operator LeftShortest) = true
is_ruling (operator RightLongest) = true
is_ruling (operator RightShortest) = true
is_ruling (operator Only) = true
is_ruling _ = false

pub record IsEntry (tokens : List Token) (t : Term Raw) : Type 0 where
  pub plain : list_any is_ruling tokens ≡ false
  pub reads : IsReading tokens (Some t)
  pub edges : list_any is_misplaced (nodes false t) ≡ false

-- what a text that begins in this line says as one expression. Every fault but a place without a token has that line
pub data ExpressionSays (line : ℕ) (tokens : List Token) : Ending → Result (Term Raw) FaultAt → Type 0 where
  no_token : (at : ℕ) → ExpressionSays line tokens (NoToken at) (Err (record { line = at; why = why.Token }))
  deep : is_too_deep 0 tokens ≡ true → ExpressionSays line tokens Whole (Err (record { line = line; why = why.LimitNesting }))
  unread : is_too_deep 0 tokens ≡ false → ((t : Term Raw) → IsEntry tokens t → ⊥) → ExpressionSays line tokens Whole (Err (record { line = line; why = why.Statement }))
  power : (t : Term Raw) → is_too_deep 0 tokens ≡ false → IsEntry tokens t → list_any has_high_power (nodes false t) ≡ true → ExpressionSays line tokens Whole (Err (record { line = line; why = why.LimitPower }))
  fine : (t : Term Raw) → is_too_deep 0 tokens ≡ false → IsEntry tokens t → list_any has_high_power (nodes false t) ≡ false → ExpressionSays line tokens Whole (Ok t)

pub record ReadsExpression (text : List ℕ) (line : ℕ) (answer : Result (Term Raw) FaultAt) : Type 0 where
  pub tokens : List Token
  pub places : List Place
  pub ending : Ending
  pub cut : Cuts OfEntries line text tokens places ending
  pub says : ExpressionSays line tokens ending answer
