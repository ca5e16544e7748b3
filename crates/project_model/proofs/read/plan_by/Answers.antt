use Rattle.std.proofs.Common.{map}
use Rattle.project_meaning.specs.Projects.{names_of}
use Rattle.project_sources.proofs.Bodies.{files_built}
use Rattle.project_model.specs.Answers.{written_of}
use Rattle.project_model.proofs.Formed.{formed_files}
use Rattle.project_model.proofs.Reading.{planned_files}
use Rattle.project_model.proofs.read.plan_by.Goals as goal

pub plan_of-requires-clause-formed : goal.plan_of-requires-clause-formed
plan_of-requires-clause-formed c = formed_files c.args.sources.now c.args.manifest.now (map written_of c.in-Ok.contents.written.items) (rw c.lines-lines.ensures.lines at c.in-Ok.ensures.written)

pub plan_of-requires-clause-built : goal.plan_of-requires-clause-built
plan_of-requires-clause-built c =
    let written = map written_of c.in-Ok.contents.written.items in
    files_built (names_of written) c.args.sources.now c.args.manifest.now written (rw c.lines-lines.ensures.lines at c.in-Ok.ensures.written)

pub returns-clause-plan : goal.returns-clause-plan
returns-clause-plan c content held is =
    let lines = c.lines-lines.ensures.lines in
    planned_files c.args.sources.now content held c.args.manifest.now is (map written_of c.in-Ok.contents.written.items) (rw lines at c.in-Ok.ensures.written) (rw lines at c.in-Ok.ensures.faultless)
    c.in-Ok.contents.glosses (rw lines at c.in-Ok.ensures.glosses) c.args.table.now c.plan_of.new.table c.plan_of.result (rw lines at c.plan_of.ensures.plan) c.plan_of.ensures.glosses
