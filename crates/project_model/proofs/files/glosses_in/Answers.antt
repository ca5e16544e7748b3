use Rattle.std.proofs.Common.{refl}
use Rattle.project_sources.specs.Faults.{fault}
use Rattle.project_definitions.proofs.Steps.{refused_by}
use Rattle.project_model.proofs.Glossing.{lines_short}
use Rattle.project_model.proofs.files.glosses_in.Goals as goal

pub read-requires : goal.read-requires
read-requires c = lines_short c.args.text.now c.utf8.text c.requires

pub returns-in-Err-Fault-clause-error : goal.returns-in-Err-Fault-clause-error
returns-in-Err-Fault-clause-error c =
    let reads = rw c.in-Err-Fault.field-0-is at c.in-Err-Fault.ensures in
    refused_by _ (fault c.args.file.now c.in-Err-Fault.line c.in-Err-Fault.why) c.refused.result (_, reads, refl) c.refused.ensures
