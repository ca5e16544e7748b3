use Rattle.regex_ast.proofs.Rows.{term-Directed}
use Rattle.expr_leaves.proofs.mapping.with_way.Goals as goal

pub returns : goal.returns
returns g c = term-Directed c.args.way c.args.maps c.args.contexts
