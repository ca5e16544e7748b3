-- What tokens say as one expression of an entry.
use Rattle.std.proofs.Common.{◌≡◌, ℕ, Bool, true, false, List, Ok, Err, sym, ap, subst, ◌∙◌}
use Rattle.std.specs.List.{list_any}
use Rattle.regex_ast.specs.Terms.{Term, term}
use Rattle.regex_ast.specs.declared.expr.Expr.{Expr}
use Rattle.regex_ast.specs.declared.expr.Raw.{Raw}
use Rattle.regex_ast.specs.declared.fault.ReadError.{ReadError}
use Rattle.regex_ast.specs.declared.fault.ReadError.TheVariants.{Fault, Memory}
use Rattle.regex_ast.specs.declared.fault.Why.{Why}
use Rattle.regex_ast.specs.declared.fault.Why.TheVariants as why
use Rattle.regex_tokens.specs.declared.token.Ending.TheVariants.{Whole}
use Rattle.regex_tokens.specs.declared.token.Token.{Token}
use Rattle.regex_reader.specs.declared.findings.Findings.{Findings}
use Rattle.regex_reader.specs.Files.{ExpressionSays, deep, unread, power, fine, IsEntry, is_too_deep, is_ruling}
use Rattle.regex_reader.specs.Found.{found_in}
use Rattle.regex_reader.specs.Tests.{nodes, has_high_power}
use Rattle.regex_reader.specs.Verdicts.{IsChecked, IsEntryAnswer}

true_false : true ≡ false → ⊥
true_false e = absurd cc

pub entry_deep : (line : ℕ) (ts : List Token) → true ≡ is_too_deep 0 ts → ExpressionSays line ts Whole (Err (record { line = line; why = why.LimitNesting }))
entry_deep line ts is = deep (sym is)

pub entry_ruled : (line : ℕ) (ts : List Token) → false ≡ is_too_deep 0 ts → true ≡ list_any is_ruling ts → ExpressionSays line ts Whole (Err (record { line = line; why = why.Statement }))
entry_ruled line ts shallow is = unread (sym shallow) (λ t entry. true_false (is ∙ entry.plain))

pub entry_not_checked : (line : ℕ) (ts : List Token) (error : ReadError) → false ≡ is_too_deep 0 ts → IsChecked line ts (Err error) → IsEntryAnswer line ts (Err error)
entry_not_checked line ts (Fault at reason) shallow (there, reason_is, none) =
    subst (λ (n : ℕ). ExpressionSays line ts Whole (Err (record { line = n; why = reason }))) (sym there)
    (subst (λ (v : Why). ExpressionSays line ts Whole (Err (record { line = line; why = v }))) (sym reason_is) (unread (sym shallow) (λ t entry. none t entry.reads entry.edges)))
entry_not_checked line ts (Memory error) shallow checked = checked

is_entry : (line : ℕ) (ts : List Token) (x : Expr Raw × Findings) → false ≡ list_any is_ruling ts → IsChecked line ts (Ok x) → IsEntry ts (term x.0)
is_entry line ts x plain (reads, edges, found) = record { plain = sym plain; reads = reads; edges = edges }

powers : (found : Findings) (t : Term Raw) (b : Bool) → found ≡ found_in (nodes false t) → found.high_power ≡ b → list_any has_high_power (nodes false t) ≡ b
powers found t b is e = ap (λ (f : Findings). f.high_power) (sym is) ∙ e

pub entry_high : (line : ℕ) (ts : List Token) (x : Expr Raw × Findings) → false ≡ is_too_deep 0 ts → false ≡ list_any is_ruling ts → IsChecked line ts (Ok x) → x.1.high_power ≡ true → ExpressionSays line ts Whole (Err (record { line = line; why = why.LimitPower }))
entry_high line ts x shallow plain (reads, edges, found) high = power (term x.0) (sym shallow) (is_entry line ts x plain (reads, edges, found)) (powers x.1 (term x.0) true found high)

pub entry_fine : (line : ℕ) (ts : List Token) (x : Expr Raw × Findings) → false ≡ is_too_deep 0 ts → false ≡ list_any is_ruling ts → IsChecked line ts (Ok x) → x.1.high_power ≡ false → ExpressionSays line ts Whole (Ok (term x.0))
entry_fine line ts x shallow plain (reads, edges, found) low = fine (term x.0) (sym shallow) (is_entry line ts x plain (reads, edges, found)) (powers x.1 (term x.0) false found low)
