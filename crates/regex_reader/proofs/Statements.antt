-- What is found in the tokens of a statement.
use Rattle.std.proofs.Common.{◌≡◌, ℕ, Bool, true, false, List, length, Some, Ok, Err, refl, sym, ap, subst, ◌∙◌}
use Rattle.std.specs.List.{list_any}
use Rattle.regex_ast.specs.Terms.{Term, term}
use Rattle.regex_ast.specs.declared.expr.Expr.{Expr}
use Rattle.regex_ast.specs.declared.expr.Raw.{Raw}
use Rattle.regex_ast.specs.declared.fault.ReadError.{ReadError}
use Rattle.regex_ast.specs.declared.fault.ReadError.TheVariants.{Fault, Memory}
use Rattle.regex_ast.specs.declared.fault.Why.{Why}
use Rattle.regex_ast.specs.declared.fault.Why.TheVariants as why
use Rattle.regex_grammar.specs.Whole.{IsReading}
use Rattle.regex_tokens.specs.declared.token.Place.{Place}
use Rattle.regex_tokens.specs.declared.token.Token.{Token}
use Rattle.regex_reader.specs.declared.findings.Findings.{Findings}
use Rattle.regex_reader.specs.Files.{Placed, Statement, IsForm, IsStatement, Verdict, deep, unread, power, rule, fine, tokens_of, first_line, is_too_deep}
use Rattle.regex_reader.specs.Found.{found_in}
use Rattle.regex_reader.specs.Tests.{nodes, is_misplaced, has_high_power, has_large_rule}
use Rattle.regex_reader.specs.Verdicts.{placed, line_of, IsChecked, IsVerdict}
use Rattle.regex_reader.proofs.Forms.{form_tokens, run_text, run_rest, fronts_same}
use Rattle.regex_reader.proofs.Placed.{tokens_placed, first_line_placed}
use Rattle.regex_reader.proofs.Readings.{same_term}

-- tokens have one form, and say one statement

pub one_name : (p : List Placed) (m n : List ℕ) (a b : List Placed) → IsForm p m a → IsForm p n b → m ≡ n
one_name p m n a b f g = let same = sym (form_tokens p m a f) ∙ form_tokens p n b g in run_text _ _ _ _ (run_rest _ _ _ _ same)

pub one_expression : (p : List Placed) (m n : List ℕ) (a b : List Placed) → IsForm p m a → IsForm p n b → tokens_of a ≡ tokens_of b
one_expression p m n a b f g = let same = sym (form_tokens p m a f) ∙ form_tokens p n b g in fronts_same _ _ _ (run_rest _ _ _ _ (run_rest _ _ _ _ same))

said : (k l : ℕ) (m n : List ℕ) (t u : Term Raw) → k ≡ l → m ≡ n → t ≡ u → ◌≡◌ {A = Statement} (record { line = k; name = m; term = t }) (record { line = l; name = n; term = u })
said k l m n t u p q r = rw (p, q, r) refl

pub one_statement : (p : List Placed) (s t : Statement) → IsStatement p s → IsStatement p t → s ≡ t
one_statement p s t f g =
    let reads = subst (λ (ts : List Token). IsReading ts (Some t.term)) (sym (one_expression p s.name t.name f.expression g.expression f.form g.form)) g.reads in
    said s.line t.line s.name t.name s.term t.term (f.line ∙ sym g.line) (one_name p s.name t.name f.expression g.expression f.form g.form) (same_term (tokens_of f.expression) s.term t.term f.reads reads)

-- verdicts, of tokens and places that are as many

shallow : (ts : List Token) (ps : List Place) → length ts ≡ length ps → false ≡ is_too_deep 0 ts → is_too_deep 0 (tokens_of (placed ts ps)) ≡ false
shallow ts ps same is = ap (is_too_deep 0) (tokens_placed ts ps same) ∙ sym is

pub too_deep : (ts : List Token) (ps : List Place) (line : ℕ) → length ts ≡ length ps → line ≡ line_of ps → true ≡ is_too_deep 0 ts → (line ≡ first_line (placed ts ps)) × Verdict (placed ts ps) (Err why.LimitNesting)
too_deep ts ps line same at is = (at ∙ first_line_placed ts ps same, deep (ap (is_too_deep 0) (tokens_placed ts ps same) ∙ sym is))

pub no_form : (ts : List Token) (ps : List Place) (line : ℕ) → length ts ≡ length ps → line ≡ line_of ps → false ≡ is_too_deep 0 ts → ((name : List ℕ) (expression : List Placed) → IsForm (placed ts ps) name expression → ⊥)
    → (line ≡ first_line (placed ts ps)) × Verdict (placed ts ps) (Err why.Statement)
no_form ts ps line same at is none = (at ∙ first_line_placed ts ps same, unread (shallow ts ps same is) (λ s statement. none s.name statement.expression statement.form))

unchecked : (p : List Placed) (name : List ℕ) (x : List Placed) (es : List Token) → IsForm p name x → tokens_of x ≡ es → ((t : Term Raw) → IsReading es (Some t) → list_any is_misplaced (nodes false t) ≡ false → ⊥) → (s : Statement) → IsStatement p s → ⊥
unchecked p name x es form is none s statement =
    none s.term (subst (λ (ts : List Token). IsReading ts (Some s.term)) (one_expression p s.name name statement.expression x statement.form form ∙ is) statement.reads) statement.edges

abbrev pub HasForm : List Placed → List ℕ → List Token → Type 0
HasForm p name es = (x : List Placed) × IsForm p name x × (tokens_of x ≡ es)

pub not_checked : (ts : List Token) (ps : List Place) (line : ℕ) (name : List ℕ) (es : List Token) (error : ReadError) → length ts ≡ length ps → line ≡ line_of ps → false ≡ is_too_deep 0 ts → HasForm (placed ts ps) name es → IsChecked line es (Err error) → IsVerdict (placed ts ps) (Err error)
not_checked ts ps line name es (Fault at reason) same first is (x, form, tokens) (there, reason_is, none) =
    (there ∙ first ∙ first_line_placed ts ps same, subst (λ (v : Why). Verdict (placed ts ps) (Err v)) (sym reason_is) (unread (shallow ts ps same is) (unchecked (placed ts ps) name x es form tokens none)))
not_checked ts ps line name es (Memory refused) same first is form checked = checked

-- what stands where the expression is read

pub stated : (ts : List Token) (ps : List Place) (line : ℕ) (name : List ℕ) (es : List Token) (t : Term Raw) → length ts ≡ length ps → line ≡ line_of ps → HasForm (placed ts ps) name es → IsReading es (Some t) → list_any is_misplaced (nodes false t) ≡ false → IsStatement (placed ts ps) (record { line = line; name = name; term = t })
stated ts ps line name es t same at (x, form, tokens) reads edges = record {
  expression = x;
  form = form;
  reads = subst (λ (v : List Token). IsReading v (Some t)) (sym tokens) reads;
  edges = edges;
  line = at ∙ first_line_placed ts ps same;
}

powers : (found : Findings) (t : Term Raw) (b : Bool) → found ≡ found_in (nodes false t) → found.high_power ≡ b → list_any has_high_power (nodes false t) ≡ b
powers found t b is e = ap (λ (f : Findings). f.high_power) (sym is) ∙ e

sizes : (found : Findings) (t : Term Raw) (b : Bool) → found ≡ found_in (nodes false t) → found.large_rule ≡ b → list_any has_large_rule (nodes false t) ≡ b
sizes found t b is e = ap (λ (f : Findings). f.large_rule) (sym is) ∙ e

pub high : (ts : List Token) (ps : List Place) (line : ℕ) (name : List ℕ) (es : List Token) (x : Expr Raw × Findings) → length ts ≡ length ps → line ≡ line_of ps → false ≡ is_too_deep 0 ts → HasForm (placed ts ps) name es → IsChecked line es (Ok x) → x.1.high_power ≡ true
    → (line ≡ first_line (placed ts ps)) × Verdict (placed ts ps) (Err why.LimitPower)
high ts ps line name es x same at is form (reads, edges, found) e =
    (at ∙ first_line_placed ts ps same, power (record { line = line; name = name; term = term x.0 }) (shallow ts ps same is) (stated ts ps line name es (term x.0) same at form reads edges) (powers x.1 (term x.0) true found e))

pub large : (ts : List Token) (ps : List Place) (line : ℕ) (name : List ℕ) (es : List Token) (x : Expr Raw × Findings) → length ts ≡ length ps → line ≡ line_of ps → false ≡ is_too_deep 0 ts → HasForm (placed ts ps) name es → IsChecked line es (Ok x) → x.1.high_power ≡ false → x.1.large_rule ≡ true
    → (line ≡ first_line (placed ts ps)) × Verdict (placed ts ps) (Err why.LimitRule)
large ts ps line name es x same at is form (reads, edges, found) low e =
    (at ∙ first_line_placed ts ps same, rule (record { line = line; name = name; term = term x.0 }) (shallow ts ps same is) (stated ts ps line name es (term x.0) same at form reads edges) (powers x.1 (term x.0) false found low) (sizes x.1 (term x.0) true found e))

pub accepted : (ts : List Token) (ps : List Place) (line : ℕ) (name : List ℕ) (es : List Token) (x : Expr Raw × Findings) → length ts ≡ length ps → line ≡ line_of ps → false ≡ is_too_deep 0 ts → HasForm (placed ts ps) name es → IsChecked line es (Ok x) → x.1.high_power ≡ false → x.1.large_rule ≡ false
    → Verdict (placed ts ps) (Ok (record { line = line; name = name; term = term x.0 }))
accepted ts ps line name es x same at is form (reads, edges, found) low small =
    fine (record { line = line; name = name; term = term x.0 }) (shallow ts ps same is) (stated ts ps line name es (term x.0) same at form reads edges) (powers x.1 (term x.0) false found low) (sizes x.1 (term x.0) false found small)
