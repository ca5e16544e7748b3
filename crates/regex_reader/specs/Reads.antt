-- What the readers answer.
use Rattle.std.specs.Prelude.{◌≡◌, ℕ, List, map, ⊤, Result, Ok, Err, Vec}
use Rattle.std.specs.Global.{Global}
use Rattle.regex_ast.specs.Terms.{Term, term}
use Rattle.regex_ast.specs.declared.expr.Raw.{Raw}
use Rattle.regex_ast.specs.declared.expr.Expr.{Expr}
use Rattle.regex_ast.specs.declared.expr.Define.{Define}
use Rattle.regex_ast.specs.declared.fault.ReadError.{ReadError}
use Rattle.regex_ast.specs.declared.fault.ReadError.TheVariants.{Fault, Memory}
use Rattle.regex_reader.specs.Files.{Statement, FaultAt, statement_of, ReadsAs, ReadsExpression}

-- definitions, a fault, or want of memory, where this says what they may be
abbrev pub IsAnswer : (Result (List Statement) FaultAt → Type 0) → Result (Vec (Define Raw) Global) ReadError → Type 0
IsAnswer Says (Ok defines) = Says (Ok (map statement_of defines.items))
IsAnswer Says (Err (Fault line why)) = Says (Err (record { line = line; why = why }))
IsAnswer Says (Err (Memory refused)) = ⊤

-- the definitions of the text, or its first fault
abbrev pub IsRead : List ℕ → Result (Vec (Define Raw) Global) ReadError → Type 0
IsRead text answer = IsAnswer (ReadsAs text) answer

-- the expression of the text that begins in this line, or its first fault
abbrev pub IsReadExpression : List ℕ → ℕ → Result (Expr Raw) ReadError → Type 0
IsReadExpression text line (Ok expr) = ReadsExpression text line (Ok (term expr))
IsReadExpression text line (Err (Fault at why)) = ReadsExpression text line (Err (record { line = at; why = why }))
IsReadExpression text line (Err (Memory refused)) = ⊤

-- a text says one thing only
abbrev pub OneReading : Type 0
OneReading = (text : List ℕ) (a b : Result (List Statement) FaultAt) → ReadsAs text a → ReadsAs text b → a ≡ b

abbrev pub OneExpression : Type 0
OneExpression = (text : List ℕ) (line : ℕ) (a b : Result (Term Raw) FaultAt) → ReadsExpression text line a → ReadsExpression text line b → a ≡ b
