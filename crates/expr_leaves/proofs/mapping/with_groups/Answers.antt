use Rattle.regex_ast.proofs.Rows.{term-Rules}
use Rattle.expr_leaves.proofs.mapping.with_groups.Goals as goal

pub returns : goal.returns
returns g c = term-Rules c.args.optional c.args.groups
