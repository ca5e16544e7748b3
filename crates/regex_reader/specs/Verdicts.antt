-- What the steps of the reader answer, of tokens and their places.
use Rattle.std.specs.Prelude.{◌≡◌, ℕ, ◌++◌, Bool, false, not, ◌&&◌, codes, List, [], ◌∷◌, ⊤, Option, Some, None, Result, Ok, Err}
use Rattle.std.specs.List.{list_any}
use Rattle.std.specs.Str.{bytes_eq}
use Rattle.regex_ast.specs.Terms.{Term, term}
use Rattle.regex_ast.specs.declared.expr.Raw.{Raw}
use Rattle.regex_ast.specs.declared.expr.Expr.{Expr}
use Rattle.regex_ast.specs.declared.expr.Define.{Define}
use Rattle.regex_ast.specs.declared.fault.ReadError.{ReadError}
use Rattle.regex_ast.specs.declared.fault.ReadError.TheVariants.{Fault, Memory}
use Rattle.regex_ast.specs.declared.fault.Why.TheVariants as why
use Rattle.regex_grammar.specs.Whole.{IsReading}
use Rattle.regex_tokens.specs.Bytes.{begins}
use Rattle.regex_tokens.specs.declared.token.Ending.{Ending}
use Rattle.regex_tokens.specs.declared.token.Ending.TheVariants.{Whole}
use Rattle.regex_tokens.specs.declared.token.Operator.TheVariants.{Semicolon}
use Rattle.regex_tokens.specs.declared.token.Place.{Place}
use Rattle.regex_tokens.specs.declared.token.Token.{Token}
use Rattle.regex_tokens.specs.declared.token.Token.TheVariants.{Operator as operator}
use Rattle.regex_reader.specs.declared.findings.Findings.{Findings}
use Rattle.regex_reader.specs.Files.{is_name, is_round, Placed, Verdict, Says, IsForm, ExpressionSays, first_line, tokens_of, plain_run, statement_of}
use Rattle.regex_reader.specs.Found.{found_in}
use Rattle.regex_reader.specs.Tests.{nodes, is_misplaced}

-- tokens with their places
abbrev pub placed : List Token → List Place → List Placed
placed [] places = []
placed (t ∷ tokens) [] = []
placed (t ∷ tokens) (p ∷ places) = record { token = t; place = p } ∷ placed tokens places

-- the line of the first
abbrev pub line_of : List Place → ℕ
line_of [] = 0
line_of (p ∷ places) = p.line

-- a run without escape in front, and the tokens behind it
abbrev pub IsRunSplit : List Token → Option (List ℕ × List Token) → Type 0
IsRunSplit tokens None = (text : List ℕ) (rest : List Token) → tokens ≡ plain_run text ∷ rest → ⊥
IsRunSplit tokens (Some x) = tokens ≡ plain_run x.0 ∷ x.1

-- the tokens before a `;` at the end
abbrev pub IsEndSplit : List Token → Option (List Token) → Type 0
IsEndSplit tokens None = (front : List Token) → tokens ≡ front ++ operator Semicolon ∷ [] → ⊥
IsEndSplit tokens (Some front) = tokens ≡ front ++ operator Semicolon ∷ []

-- a command, a name and an expression, which a blank or a comment is before or isn't
abbrev pub fits : List ℕ → List ℕ → List Token → Bool → Bool
fits command name expression apart = bytes_eq command (codes "define") && (is_name name && not (begins is_round expression && not apart))

-- the name and the expression of a statement, by its tokens
abbrev pub IsFormSplit : List Placed → Option (List ℕ × List Token) → Type 0
IsFormSplit tokens None = (name : List ℕ) (expression : List Placed) → IsForm tokens name expression → ⊥
IsFormSplit tokens (Some x) = (expression : List Placed) × IsForm tokens x.0 expression × (tokens_of expression ≡ x.1)

-- an expression with no edge outside of contexts, and what else is found in it
abbrev pub IsChecked : ℕ → List Token → Result (Expr Raw × Findings) ReadError → Type 0
IsChecked line tokens (Ok x) = IsReading tokens (Some (term x.0)) × (list_any is_misplaced (nodes false (term x.0)) ≡ false) × (x.1 ≡ found_in (nodes false (term x.0)))
IsChecked line tokens (Err (Fault at reason)) = (at ≡ line) × (reason ≡ why.Statement) × ((t : Term Raw) → IsReading tokens (Some t) → list_any is_misplaced (nodes false t) ≡ false → ⊥)
IsChecked line tokens (Err (Memory refused)) = ⊤

-- what is found in the tokens of one statement
abbrev pub IsVerdict : List Placed → Result (Define Raw) ReadError → Type 0
IsVerdict tokens (Ok define) = Verdict tokens (Ok (statement_of define))
IsVerdict tokens (Err (Fault line reason)) = (line ≡ first_line tokens) × Verdict tokens (Err reason)
IsVerdict tokens (Err (Memory refused)) = ⊤

-- what is found in tokens with no `;`, which end so
abbrev pub IsEnd : List Placed → Ending → Result ⊤ ReadError → Type 0
IsEnd tokens ending (Ok nothing) = Says tokens ending (Ok [])
IsEnd tokens ending (Err (Fault line reason)) = Says tokens ending (Err (record { line = line; why = reason }))
IsEnd tokens ending (Err (Memory refused)) = ⊥

-- what tokens are as one expression of an entry
abbrev pub IsEntryAnswer : ℕ → List Token → Result (Expr Raw) ReadError → Type 0
IsEntryAnswer line tokens (Ok expr) = ExpressionSays line tokens Whole (Ok (term expr))
IsEntryAnswer line tokens (Err (Fault at reason)) = ExpressionSays line tokens Whole (Err (record { line = at; why = reason }))
IsEntryAnswer line tokens (Err (Memory refused)) = ⊤
