use Rattle.std.proofs.Common.{◌∙◌}
use Rattle.regex_parser.proofs.Terms.{term-restriction}
use Rattle.regex_parser.proofs.build.restriction.Goals as goal

pub returns : goal.returns
returns c = term-restriction c.in_ok-new.field-0 c.args.centre.expr c.args.contexts (c.in_ok-new.ensures.ok ∙ c.into_expr.ensures)
