-- What one entry of a lexicon says: a form and the lexicon that a path goes on in (Beesley and Karttunen, Finite State Morphology,
-- 2003, chapter 4). A place without a token is the first fault of an entry, then too many open brackets in its expression, then
-- that it has no form, and then a power that is too high.
use Rattle.std.specs.Prelude.{◌≡◌, ◌==◌, ℕ, Bool, true, false, List, [], ◌∷◌, map, Option, None, Some, Result, Ok, Err, if◌then◌else◌}
use Rattle.regex_ast.specs.Terms.{Term}
use Rattle.regex_ast.specs.declared.expr.Raw.{Raw}
use Rattle.regex_ast.specs.declared.lexc.Form.{Form as FormOf}
use Rattle.regex_ast.specs.declared.fault.Why.{Why}
use Rattle.regex_ast.specs.declared.fault.Why.TheVariants as why
use Rattle.regex_reader.specs.Files.{FaultAt, ReadsExpression}
use Rattle.project_meaning.specs.Trees.{Form, sides, pairs}
use Rattle.lexc_forms.specs.Letters.{text_of}
use Rattle.lexc_forms.specs.Forms.{HasNoSides, IsForm}
use Rattle.lexc_forms.specs.declared.letters.Letter.{Letter}
use Rattle.lexc_forms.specs.declared.letters.Letter.TheVariants.{Plain, Escaped}
use Rattle.lexc_tokens.specs.declared.token.Token.{Token}
use Rattle.lexc_tokens.specs.declared.token.Token.TheVariants.{Word as word, Semicolon as semicolon, Expression as expression}
use Rattle.lexc_grammar.specs.Lexicons.{form_of}
use Rattle.lexc_grammar.specs.declared.statements.Ending.{Ending}
use Rattle.lexc_grammar.specs.declared.statements.Ending.TheVariants.{Ended, Unended, Broken}

abbrev pub fault_at : {T : Type 0} → ℕ → Why → Result T FaultAt
fault_at line reason = Err (record { line = line; why = reason })

-- the word `#`, which ends a path and is no name
abbrev pub hash : List Letter
hash = Plain 35 ∷ []

-- the lexicon that a word names, or none
abbrev pub next_of : List Letter → Option (List ℕ)
next_of (Plain c ∷ []) = if c == 35 then None else Some (text_of (Plain c ∷ []))
next_of letters = Some (text_of letters)

abbrev pub Said : Type 0
Said = Result (Form Raw × Option (List ℕ)) FaultAt

-- a form, and where a path goes on
abbrev pub with_next : Result (Form Raw) FaultAt → List Letter → Said
with_next (Ok form) next = Ok (form, next_of next)
with_next (Err found) next = Err found

-- what an entry says whose form is this, or has this fault, with these tokens behind it: one word, and `;`
abbrev pub with_form : ℕ → Result (Form Raw) FaultAt → List Token → Ending → Said
with_form line form more (Broken at) = fault_at at why.Token
with_form line form more Unended = fault_at line why.Statement
with_form line form (word next ∷ []) Ended = with_next form next
with_form line form more Ended = fault_at line why.Statement

-- the same where the form is an expression, whose faults by a place without a token and by open brackets go before that of the form
abbrev pub with_expression : ℕ → Result (Term Raw) FaultAt → List Token → Ending → Said
with_expression line (Ok t) more ending = with_form line (Ok (pairs t)) more ending
with_expression line (Err found) more ending = by found.why ending
  where
    by : Why → Ending → Said
    by why.Token ending = Err found
    by why.LimitNesting (Broken at) = fault_at at why.Token
    by why.LimitNesting _ = Err found
    by reason ending = with_form line (Err found) more ending

-- the form of a word, whose second `:` is a fault
abbrev pub WordSays : List (List ℕ) → ℕ → List Letter → Result (Form Raw) FaultAt → Type 0
WordSays declared line letters (Ok form) = (f : FormOf Raw) × IsForm declared letters f × (form ≡ form_of f)
WordSays declared line letters (Err found) = HasNoSides letters × (Err found ≡ fault_at {T = Form Raw} line why.Statement)

-- what the tokens of an entry say that begins in this line, by what stands before the word at its end
abbrev pub EntrySays : List (List ℕ) → ℕ → List Token → Ending → Said → Type 0
EntrySays declared line [] ending said = said ≡ with_form line (Ok (sides [] [])) [] ending
EntrySays declared line (word next ∷ []) ending said = said ≡ with_form line (Ok (sides [] [])) (word next ∷ []) ending
EntrySays declared line (word letters ∷ more) ending said = (form : Result (Form Raw) FaultAt) × WordSays declared line letters form × (said ≡ with_form line form more ending)
EntrySays declared line (expression e ∷ more) ending said = (read : Result (Term Raw) FaultAt) × ReadsExpression e line read × (said ≡ with_expression line read more ending)
EntrySays declared line (semicolon ∷ more) ending said = ⊥
