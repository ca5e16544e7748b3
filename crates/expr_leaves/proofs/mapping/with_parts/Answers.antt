use Rattle.expr_leaves.proofs.mapping.with_parts.Goals as goal
use Rattle.regex_ast.specs.declared.expr.Expr.{items_hidden-the_row-Context-2}
use Rattle.regex_ast.specs.declared.expr.Expr.TheViews.{roll-Group}
use Rattle.regex_ast.specs.declared.expr.Group.{items_hidden-the_row-Mapping-4}

pub returns-clause-maps : goal.returns-clause-maps
unfolding roll-Group denote.Hole.Carrier.roll
returns-clause-maps g c = items_hidden-the_row-Mapping-4 _ c.args.maps

pub returns-clause-contexts : goal.returns-clause-contexts
unfolding roll-Group denote.Hole.Carrier.roll
returns-clause-contexts g c = items_hidden-the_row-Context-2 _ c.args.contexts
