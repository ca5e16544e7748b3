use Rattle.std.proofs.Common.{◌≡◌, sym, subst, List, ℕ, Ok}
use Rattle.regex_ast.specs.Terms.{term}
use Rattle.regex_reader.specs.Files.{Verdict}
use Rattle.regex_reader.specs.Verdicts.{placed, IsVerdict}
use Rattle.regex_reader.proofs.Errors.{passed_on}
use Rattle.regex_reader.proofs.Statements.{too_deep, no_form, not_checked, high, large, accepted}
use Rattle.regex_reader.proofs.statement.statement.Goals as goal

pub returns-then-is_too_deep : goal.returns-then-is_too_deep
returns-then-is_too_deep c = too_deep c.args.tokens.now c.args.places.now c.first_line-line.result c.requires c.first_line-line.ensures c.if-is_too_deep.ensures

pub returns-in_default : goal.returns-in_default
returns-in_default c = no_form c.args.tokens.now c.args.places.now c.first_line-line.result c.requires c.first_line-line.ensures c.if-is_too_deep.ensures c.in_default.ensures

pub returns-in_err-expr : goal.returns-in_err-expr
returns-in_err-expr c =
    passed_on (IsVerdict (placed c.args.tokens.now c.args.places.now)) c.from_residual.result c.in_err-expr.field-0.0 c.from_residual.ensures.1
    (not_checked c.args.tokens.now c.args.places.now c.first_line-line.result c.in-Some.form.name.now c.in-Some.form.expression.now c.in_err-expr.field-0.0 c.requires c.first_line-line.ensures c.if-is_too_deep.ensures c.in-Some.ensures c.in_err-expr.ensures)

pub returns-then-found : goal.returns-then-found
returns-then-found c = high c.args.tokens.now c.args.places.now c.first_line-line.result c.in-Some.form.name.now c.in-Some.form.expression.now (c.in_ok-expr.expr, c.in_ok-expr.found) c.requires c.first_line-line.ensures c.if-is_too_deep.ensures c.in-Some.ensures c.in_ok-expr.ensures c.if-found.true

pub returns-then-found-2 : goal.returns-then-found-2
returns-then-found-2 c = large c.args.tokens.now c.args.places.now c.first_line-line.result c.in-Some.form.name.now c.in-Some.form.expression.now (c.in_ok-expr.expr, c.in_ok-expr.found) c.requires c.first_line-line.ensures c.if-is_too_deep.ensures c.in-Some.ensures c.in_ok-expr.ensures c.if-found.false c.if-found-2.true

pub returns : goal.returns
returns c =
    let found = accepted c.args.tokens.now c.args.places.now c.first_line-line.result c.in-Some.form.name.now c.in-Some.form.expression.now (c.in_ok-expr.expr, c.in_ok-expr.found) c.requires c.first_line-line.ensures c.if-is_too_deep.ensures c.in-Some.ensures c.in_ok-expr.ensures c.if-found.false c.if-found-2.false in
    let copied : c.in_ok-name.name ≡ c.in-Some.form.name.now = c.in_ok-name.ensures.cases in
    subst (λ (n : List ℕ). Verdict (placed c.args.tokens.now c.args.places.now) (Ok (record { line = c.first_line-line.result; name = n; term = term c.in_ok-expr.expr }))) (sym copied) found
