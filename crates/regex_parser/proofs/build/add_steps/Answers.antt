use Rattle.std.proofs.Common.{◌∙◌}
use Rattle.regex_parser.proofs.Terms.{term-with_steps, not_none}
use Rattle.regex_parser.proofs.build.add_steps.Goals as goal

pub returns : goal.returns
returns c = term-with_steps c.in_ok-new.field-0 c.args.first.expr c.args.steps (c.in_ok-new.ensures.ok ∙ c.into_expr.ensures) (not_none c.args.steps c.if-is_empty.ensures)
