-- What the functions of the reader answer, of one entry.
use Rattle.std.specs.Prelude.{◌≡◌, ◌≢◌, ◌+◌, ◌-◌, ◌<◌, ◌^◌, ℕ, List, [], ◌∷◌, ⊤, Option, None, Some, Result, Ok, Err}
use Rattle.std.specs.Borrow.{Bor}
use Rattle.regex_ast.specs.Terms.{term}
use Rattle.regex_ast.specs.declared.expr.Raw.{Raw}
use Rattle.regex_ast.specs.declared.expr.Expr.{Expr}
use Rattle.regex_tokens.specs.Cuts.{newlines}
use Rattle.regex_ast.specs.declared.fault.ReadError.{ReadError}
use Rattle.regex_ast.specs.declared.fault.ReadError.TheVariants.{Fault, Memory}
use Rattle.regex_ast.specs.declared.lexc.Form.{Form as FormOf}
use Rattle.regex_reader.specs.Files.{FaultAt}
use Rattle.project_meaning.specs.Trees.{Form}
use Rattle.lexc_forms.specs.declared.letters.Letter.{Letter}
use Rattle.lexc_tokens.specs.declared.token.Token.{Token}
use Rattle.lexc_tokens.specs.declared.token.Token.TheVariants.{Word as word, Semicolon as semicolon, Expression as expression}
use Rattle.lexc_grammar.specs.Lexicons.{form_of}
use Rattle.lexc_grammar.specs.Entries.{Said, fault_at, with_form, with_expression, WordSays, EntrySays}
use Rattle.lexc_grammar.specs.declared.statements.Ending.{Ending}
use Rattle.lexc_reader.specs.declared.entries.EntryFault.{EntryFault}

-- a form, or its fault, as plain values
abbrev pub form_seen : Result (FormOf Raw) EntryFault → Result (Form Raw) FaultAt
form_seen (Ok form) = Ok (form_of form)
form_seen (Err found) = Err (record { line = found.line; why = found.why })

-- an entry, a fault, or want of memory, where this is said
abbrev pub IsSaid : Said → Result (FormOf Raw × Option (List ℕ)) ReadError → Type 0
IsSaid said (Ok x) = said ≡ Ok (form_of x.0, x.1)
IsSaid said (Err (Fault line reason)) = said ≡ fault_at line reason
IsSaid said (Err (Memory refused)) = ⊤

-- want of memory alone
abbrev pub IsMemory : Result (FormOf Raw × Option (List ℕ)) ReadError → Type 0
IsMemory (Ok x) = ⊥
IsMemory (Err (Fault line reason)) = ⊥
IsMemory (Err (Memory refused)) = ⊤

-- what is said of an entry whose expression reads so
abbrev pub IsSaidBehind : ℕ → Result (Expr Raw) ReadError → List Token → Ending → Result (FormOf Raw × Option (List ℕ)) ReadError → Type 0
IsSaidBehind line (Ok expr) more ending result = IsSaid (with_expression line (Ok (term expr)) more ending) result
IsSaidBehind line (Err (Fault at reason)) more ending result = IsSaid (with_expression line (fault_at at reason) more ending) result
IsSaidBehind line (Err (Memory refused)) more ending result = IsMemory result

-- what is said of an entry whose form is this word
abbrev pub IsSaidByWord : List (List ℕ) → ℕ → List Letter → List Token → Ending → Result (FormOf Raw × Option (List ℕ)) ReadError → Type 0
IsSaidByWord declared line letters more ending (Err (Memory refused)) = ⊤
IsSaidByWord declared line letters more ending result = (form : Result (Form Raw) FaultAt) × WordSays declared line letters form × IsSaid (with_form line form more ending) result

-- an entry by its tokens, a fault, or want of memory
abbrev pub IsEntryRead : List (List ℕ) → ℕ → List Token → Ending → Result (FormOf Raw × Option (List ℕ)) ReadError → Type 0
IsEntryRead declared line tokens ending (Ok x) = EntrySays declared line tokens ending (Ok (form_of x.0, x.1))
IsEntryRead declared line tokens ending (Err (Fault at reason)) = EntrySays declared line tokens ending (fault_at at reason)
IsEntryRead declared line tokens ending (Err (Memory refused)) = ⊤

-- tokens before a `;`, in a text that isn't too long
abbrev pub MayBeEntry : ℕ → List Token → Type 0
MayBeEntry line [] = ⊤
MayBeEntry line (word letters ∷ more) = ⊤
MayBeEntry line (semicolon ∷ more) = ⊥
MayBeEntry line (expression e ∷ more) = line + newlines e < 2 ^ 32 - 1

-- tokens that are one word, which these letters are
abbrev pub IsOnlyWord : List Token → Option (Bor (List Letter)) → Type 0
IsOnlyWord tokens None = (letters : List Letter) → tokens ≢ word letters ∷ []
IsOnlyWord tokens (Some letters) = tokens ≡ word letters.now ∷ []
