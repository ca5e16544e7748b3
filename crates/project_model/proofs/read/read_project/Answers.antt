use Rattle.project_model.proofs.Reading.{symbols_in_table}
use Rattle.project_model.proofs.read.read_project.Goals as goal

pub returns-in-Ok-clause-held : goal.returns-in-Ok-clause-held
returns-in-Ok-clause-held c = symbols_in_table c.args.sources.now c.args.table.now c.plan_of_sources.new.table c.in-Ok.plan c.in-Ok.ensures.plan
