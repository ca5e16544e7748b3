use Rattle.std.proofs.Common.{refl}
use Rattle.project_sources.specs.Faults.{fault}
use Rattle.project_definitions.proofs.Steps.{refused_by}
use Rattle.project_model.proofs.Plain.{says_lexicons}
use Rattle.project_model.proofs.Reading.{newlines_short}
use Rattle.project_model.proofs.files.lexicons_in.Goals as goal

pub read_lexc-requires : goal.read_lexc-requires
read_lexc-requires c = newlines_short c.args.text.now c.requires

pub returns-in-Ok-clause-read : goal.returns-in-Ok-clause-read
returns-in-Ok-clause-read c = says_lexicons c.args.text.now c.in-Ok.lexicons.items c.in-Ok.ensures

pub returns-in-Err-Fault-clause-error : goal.returns-in-Err-Fault-clause-error
returns-in-Err-Fault-clause-error c =
    let reads = rw c.in-Err-Fault.field-0-is at c.in-Err-Fault.ensures in
    refused_by _ (fault c.args.file.now c.in-Err-Fault.line c.in-Err-Fault.why) c.refused.result (_, reads, refl) c.refused.ensures
