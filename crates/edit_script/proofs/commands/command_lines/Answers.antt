use Rattle.edit_script.proofs.Lines.{lines_of_command, lines_of_none}
use Rattle.edit_script.proofs.commands.command_lines.Goals as goal

pub returns-in-Some : goal.returns-in-Some
returns-in-Some c = lines_of_command c.args.line.now c.in-Some.parts c.lines_behind.result c.in-Some.ensures c.lines_behind.ensures

pub returns-in-None : goal.returns-in-None
returns-in-None c = lines_of_none c.args.line.now c.in-None.ensures
