-- From the statements of a text to what it says.
use Rattle.std.proofs.Common.{◌≡◌, ◌+◌, ◌-◌, ◌^◌, ◌<◌, ◌≤◌, ℕ, List, length, drop, chars, Result, Ok, Err, sym, ap, subst, ◌∙◌, arith, length-drop}
use Rattle.std.proofs.lemmas.List.{drop-drop}
use Rattle.std.specs.Result.{IsErrAnd}
use Rattle.std.specs.Str.{IsUtf8}
use Rattle.regex_ast.specs.declared.fault.ReadError.{ReadError}
use Rattle.regex_ast.specs.declared.fault.ReadError.TheVariants.{Fault, Memory}
use Rattle.regex_reader.specs.Files.{FaultAt}
use Rattle.regex_tokens.specs.Cuts.{newlines}
use Rattle.lexc_grammar.specs.Entries.{fault_at}
use Rattle.lexc_grammar.specs.Files.{Says}
use Rattle.lexc_grammar.specs.Lexicons.{Known, LexiconAt, nothing_known}
use Rattle.lexc_grammar.specs.declared.statements.Stage.{Stage}
use Rattle.lexc_grammar.specs.declared.statements.Stage.TheVariants.{Beginning}
use Rattle.lexc_reader.specs.Answers.{IsRead, IsStatementRead, IsStep}
use Rattle.lexc_reader.specs.declared.statements.Step.{Step}
use Rattle.lexc_reader.proofs.Newlines.{newlines_chars}

-- what holds of an error holds of the answer that passes it on
pub passed_on : {A E : Type 0} (P : Result A E → Type 0) (r : Result A E) (e : E) → IsErrAnd r (λ x. x ≡ e) → P (Err e) → P r
passed_on P (Ok x) e h p = absurd h
passed_on P (Err x) e h p = subst (λ v. P (Err v)) (sym h) p

-- what the text behind statements says is what these characters say
abbrev pub GoesOn : List ℕ → Stage → Known → List ℕ → Type 0
GoesOn items stage known rest =
    (answer : Result (List LexiconAt) FaultAt) → Says (newlines items + 1) stage known rest answer → Says (newlines items + 1) Beginning nothing_known items answer

module _ (text items : List ℕ) (items_are : items ≡ chars text) where
  pub room : IsUtf8 text → newlines text + 1 < 2 ^ 32 - 1 → (line : ℕ) (rest : List ℕ) → line + newlines rest ≡ newlines items + 1 → line + newlines rest < 2 ^ 32 - 1
  room is few line rest whole = omega (arith, few, whole, ap newlines items_are ∙ newlines_chars text is)

-- one statement more
module _ (items rest : List ℕ) (len lines : ℕ) (rest_is : rest ≡ drop len items) (whole : lines ≡ newlines items + 1) (stage : Stage) (known new : Known) (step : Step) (is : IsStep lines stage known rest new step) where
  behind_is : drop step.len rest ≡ drop (len + step.len) items
  behind_is = ap (drop step.len) rest_is ∙ drop-drop step.len len items

  pub within_more : len ≤ length items → len + step.len ≤ length items
  within_more within = omega (arith, within, is.within, ap length rest_is, length-drop len items)

  pub line_more : step.line + newlines (drop (len + step.len) items) ≡ newlines items + 1
  line_more = ap (λ (z : List ℕ). step.line + newlines z) (sym behind_is) ∙ is.line_is ∙ whole

  pub goes_on_more : GoesOn items stage known (drop len items) → GoesOn items step.stage new (drop (len + step.len) items)
  goes_on_more before answer says =
      let here : Says lines step.stage new (drop step.len rest) answer =
      subst (λ (n : ℕ). Says n step.stage new (drop step.len rest) answer) (sym whole) (subst (λ (z : List ℕ). Says (newlines items + 1) step.stage new z answer) (sym behind_is) says)
      in before answer (subst (λ (z : List ℕ). Says (newlines items + 1) stage known z answer) rest_is (subst (λ (n : ℕ). Says n stage known rest answer) whole (is.goes_on answer here)))

-- the fault of a statement is that of the text
pub fault_read : (text items rest : List ℕ) (len lines : ℕ) (stage : Stage) (known new : Known) (error : ReadError) → items ≡ chars text → rest ≡ drop len items → lines ≡ newlines items + 1
    → GoesOn items stage known (drop len items) → IsStatementRead lines stage known rest new (Err error) → IsRead text (Err error)
fault_read text items rest len lines stage known new (Fault line reason) items_are rest_is whole before says =
    let here : Says (newlines items + 1) stage known (drop len items) (fault_at line reason) =
    subst (λ (z : List ℕ). Says (newlines items + 1) stage known z (fault_at line reason)) rest_is (subst (λ (n : ℕ). Says n stage known rest (fault_at line reason)) whole says)
    in subst (λ (z : List ℕ). Says (newlines z + 1) Beginning nothing_known z (fault_at line reason)) items_are (before (fault_at line reason) here)
fault_read text items rest len lines stage known new (Memory refused) items_are rest_is whole before says = says
