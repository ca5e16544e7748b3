use Rattle.std.proofs.Common.{◌≡◌, true, false, Some, length, sym, subst, ◌∙◌, rules}
use Rattle.std.proofs.lemmas.Bool.Decides.{Decides-eqb}
use Rattle.regex_ast.specs.Terms.{term}
use Rattle.regex_ast.specs.declared.expr.Expr.{Expr}
use Rattle.regex_ast.specs.declared.expr.Raw.{Raw}
use Rattle.regex_grammar.specs.Reading.{expression_at}
use Rattle.regex_grammar.specs.Whole.{IsReading}
use Rattle.regex_parser.proofs.Complete.{whole_none, whole_read, whole_open}
use Rattle.regex_parser.proofs.whole.read_tokens.Goals as goal

pub returns-in_default : goal.returns-in_default
returns-in_default c = whole_none c.args.tokens.now (search rules)

pub returns-then-not-is_empty : goal.returns-then-not-is_empty
returns-then-not-is_empty c =
    let read : Some (term c.in-Some.parsed.expr, c.in-Some.rest.now) ≡ expression_at 65 c.args.tokens.now = search rules in
    whole_open c.args.tokens.now (term c.in-Some.parsed.expr) c.in-Some.rest.now read
    (λ none. let clash : false ≡ true = c.if-not-is_empty.ensures ∙ (Decides-eqb (length c.in-Some.rest.now) 0).1 none in absurd cc)

pub returns : goal.returns
returns c =
    let read : Some (term c.in-Some.parsed.expr, c.in-Some.rest.now) ≡ expression_at 65 c.args.tokens.now = search rules in
    subst (λ (e : Expr Raw). IsReading c.args.tokens.now (Some (term e))) (sym c.into_expr.ensures) (whole_read c.args.tokens.now (term c.in-Some.parsed.expr) c.in-Some.rest.now read ((Decides-eqb (length c.in-Some.rest.now) 0).0 (sym c.if-not-is_empty.ensures)))
