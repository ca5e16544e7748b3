use Rattle.edit_script.proofs.Unique.{one_look}
use Rattle.edit_script.proofs.laws.one_look.Goals as goal

pub returns : goal.returns
returns c = one_look
