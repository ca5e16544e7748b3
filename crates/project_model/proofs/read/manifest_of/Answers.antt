use Rattle.std.proofs.Common.{length, ap, arith}
use Rattle.project_model.proofs.Reading.{no_text_no_manifest, text_short}
use Rattle.project_model.proofs.read.manifest_of.Goals as goal

pub returns-in-Err-clause-error : goal.returns-in-Err-clause-error
returns-in-Err-clause-error c = no_text_no_manifest c.args.bytes.now c.in-Err.error c.in-Err.ensures.error

pub read_manifest-requires : goal.read_manifest-requires
read_manifest-requires c = text_short c.as_str.result.now (omega (arith, ap length c.as_str.ensures, c.in-Ok.ensures.short))
