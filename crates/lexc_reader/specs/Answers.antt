-- What the functions of the reader answer.
use Rattle.std.specs.Prelude.{◌≡◌, ◌<◌, ◌≤◌, ◌+◌, ℕ, Bool, ⊤, List, length, drop, map, Option, None, Some, Result, Ok, Err, Vec}
use Rattle.std.specs.Global.{Global}
use Rattle.regex_ast.specs.declared.expr.Raw.{Raw}
use Rattle.regex_ast.specs.declared.fault.ReadError.{ReadError}
use Rattle.regex_ast.specs.declared.fault.ReadError.TheVariants.{Fault, Memory}
use Rattle.regex_ast.specs.declared.fault.Why.{Why}
use Rattle.regex_ast.specs.declared.lexc.Lexicon.{Lexicon as LexiconOf}
use Rattle.regex_reader.specs.Files.{FaultAt}
use Rattle.regex_tokens.specs.Cuts.{newlines}
use Rattle.project_meaning.specs.Trees.{Form}
use Rattle.lexc_tokens.specs.Tokens.{Follows, behind_blanks}
use Rattle.lexc_forms.specs.declared.letters.Letter.{Letter}
use Rattle.lexc_tokens.specs.declared.scanning.Found.{Found}
use Rattle.lexc_tokens.specs.declared.token.Token.{Token}
use Rattle.lexc_tokens.specs.declared.token.Token.TheVariants.{Word as word}
use Rattle.lexc_grammar.specs.Entries.{fault_at}
use Rattle.lexc_grammar.specs.Files.{Says, ReadsAs, closed, limit_of, spelling, IsNoKeyword}
use Rattle.lexc_grammar.specs.Lexicons.{Known, LexiconAt, lexicon_of, with_entry}
use Rattle.lexc_grammar.specs.declared.statements.Keyword.{Keyword}
use Rattle.lexc_grammar.specs.declared.statements.Stage.{Stage}
use Rattle.lexc_reader.specs.declared.state.State.{State}
use Rattle.lexc_reader.specs.declared.statements.Step.{Step}

-- what is known, as plain values
abbrev pub known_of : State → Known
known_of s = record { declared = s.declared; finished = map lexicon_of s.finished.items; current = lexicon_of s.current; names = s.names; count = s.count; features = s.features }

-- an entry is added, or what bars it
abbrev pub IsAdded : Known → ℕ → Form Raw → Option (List ℕ) → Known → Option Why → Type 0
IsAdded known line form next new None = (limit_of known form ≡ None) × (new ≡ with_entry known line form next)
IsAdded known line form next new (Some reason) = limit_of known form ≡ Some reason

-- lexicons, a fault, or want of memory, where this says what they may be
abbrev pub IsAnswer : (Result (List LexiconAt) FaultAt → Type 0) → Result (Vec (LexiconOf Raw) Global) ReadError → Type 0
IsAnswer MayBe (Ok lexicons) = MayBe (Ok (map lexicon_of lexicons.items))
IsAnswer MayBe (Err (Fault line reason)) = MayBe (fault_at line reason)
IsAnswer MayBe (Err (Memory refused)) = ⊤

-- the lexicons of the text, or its first fault
abbrev pub IsRead : List ℕ → Result (Vec (LexiconOf Raw) Global) ReadError → Type 0
IsRead text answer = IsAnswer (ReadsAs text) answer

-- A token that comes next in a text, and its lines. They are told by the newlines that are left.

abbrev pub lines_of : List ℕ → Found → ℕ
lines_of text found = found.behind + newlines (drop found.len text)

pub record IsFound (opens : Bool) (text : List ℕ) (found : Found) : Type 0 where
  pub some : 0 < found.len
  pub within : found.len ≤ length text
  pub follows : Follows opens text found.token (drop found.len text)
  pub line_is : found.line + newlines (behind_blanks text) ≡ lines_of text found

-- the keyword that a token is, or that it is none
abbrev pub IsKeywordOf : Token → Option Keyword → Type 0
IsKeywordOf token (Some k) = token ≡ word (spelling k)
IsKeywordOf token None = (letters : List Letter) → token ≡ word letters → IsNoKeyword letters

-- Statements. What the text says is what the text behind a statement says.

pub record IsStep (lines : ℕ) (stage : Stage) (known : Known) (text : List ℕ) (new : Known) (step : Step) : Type 0 where
  pub some : 0 < step.len
  pub within : step.len ≤ length text
  pub line_is : step.line + newlines (drop step.len text) ≡ lines
  pub goes_on : (answer : Result (List LexiconAt) FaultAt) → Says lines step.stage new (drop step.len text) answer → Says lines stage known text answer

-- one statement, the end of all, the first fault, or want of memory
abbrev pub IsStatementRead : ℕ → Stage → Known → List ℕ → Known → Result (Option Step) ReadError → Type 0
IsStatementRead lines stage known text new (Ok (Some step)) = IsStep lines stage known text new step
IsStatementRead lines stage known text new (Ok None) = (new ≡ known) × Says lines stage known text (closed known)
IsStatementRead lines stage known text new (Err (Fault line reason)) = Says lines stage known text (fault_at line reason)
IsStatementRead lines stage known text new (Err (Memory refused)) = ⊤

-- what is said behind all statements
abbrev pub IsClosed : Known → Result (Vec (LexiconOf Raw) Global) ReadError → Type 0
IsClosed known result = IsAnswer (λ answer. answer ≡ closed known) result
