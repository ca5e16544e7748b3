use Rattle.edit_script.proofs.Lines.{line_alone, line_orders}
use Rattle.edit_script.proofs.commands.command_in.Goals as goal

pub returns-in-Some : goal.returns-in-Some
returns-in-Some c = line_orders c.args.line.now c.in_ok-text.text.now c.in_ok-text.ensures.0 c.in_ok-text.ensures.1 c.in-Some.keyword.now c.in-Some.rest.now c.in-Some.ensures.0 c.in-Some.ensures.1 c.ordered.result c.ordered.ensures

pub returns-in-None : goal.returns-in-None
returns-in-None c = line_alone c.args.line.now c.in_ok-text.text.now c.in_ok-text.ensures.0 c.in_ok-text.ensures.1 c.in-None.ensures c.word_alone.result c.word_alone.ensures
