use Rattle.project_model.proofs.Reading.{no_manifest_file}
use Rattle.fsm_program.proofs.load.readable.Goals as goal

pub returns-in-Err-Refused : goal.returns-in-Err-Refused
returns-in-Err-Refused c lines is = no_manifest_file c.args.content.now lines _ (rw c.in-Err-Refused.field-0-is at c.in-Err-Refused.ensures.error) is
