use Rattle.std.proofs.Common.{Some, Option, refl, sym, ap, subst, ◌∙◌}
use Rattle.std.specs.Option.{option_map}
use Rattle.regex_ast.specs.Terms.{term}
use Rattle.regex_ast.specs.declared.expr.Raw.{Raw}
use Rattle.regex_ast.specs.declared.expr.Expr.{Expr}
use Rattle.regex_grammar.specs.Whole.{IsReading}
use Rattle.regex_reader.specs.declared.findings.Findings.{Findings}
use Rattle.regex_reader.proofs.Readings.{no_other_term}
use Rattle.regex_reader.proofs.statement.checked.Goals as goal

pub returns-then-found : goal.returns-then-found
returns-then-found c =
    let misplaced = ap (λ (f : Findings). f.misplaced_edge) (sym c.find_in_expression-found.ensures) ∙ c.if-found.true in
    let reads : IsReading c.args.tokens.now (Some (term c.in-Some.expr)) = subst (λ (r : Option (Expr Raw)). IsReading c.args.tokens.now (option_map term r)) c.in-Some.is c.in_ok-expr.ensures in
    (refl, refl, no_other_term c.args.tokens.now (term c.in-Some.expr) reads misplaced)
