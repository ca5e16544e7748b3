use Rattle.std.proofs.lemmas.Result.{IfOk-weaker}
use Rattle.regex_ast.specs.Terms.{term}
use Rattle.body_equality.proofs.Together.{shapes_told}
use Rattle.body_equality.proofs.exprs.same_shape.Goals as goal

pub returns : goal.returns
returns c =
    IfOk-weaker c.same_expr.result _ _
    (λ same told. shapes_told (record { symbols = c.new.result; names = c.new-2.result }) c.new.ensures.items (term c.args.other.now) (term c.args.expr.now) (term c.in_ok-others.others) (term c.in_ok-shape.shape)
    c.in_ok-others.ensures c.in_ok-shape.ensures same told) c.same_expr.ensures
