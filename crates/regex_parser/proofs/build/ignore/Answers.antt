use Rattle.std.proofs.Common.{◌∷◌, ap, ◌∙◌}
use Rattle.regex_ast.specs.declared.expr.Expr.{Expr}
use Rattle.regex_ast.specs.declared.expr.Raw.{Raw}
use Rattle.regex_parser.proofs.Terms.{term-ignoring, not_none}
use Rattle.regex_parser.proofs.build.ignore.Goals as goal

pub returns : goal.returns
returns c =
    term-ignoring c.args.first.expr c.args.more.items c.insert.new.self (c.in_ok-insert.ensures.items ∙ ap (λ (e : Expr Raw). e ∷ c.args.more.items) c.into_expr.ensures) (not_none c.args.more c.if-is_empty.ensures)
