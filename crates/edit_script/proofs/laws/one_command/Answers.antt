use Rattle.edit_script.proofs.Unique.{one_command}
use Rattle.edit_script.proofs.laws.one_command.Goals as goal

pub returns : goal.returns
returns c = one_command
