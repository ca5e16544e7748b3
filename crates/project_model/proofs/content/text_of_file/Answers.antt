use Rattle.std.proofs.Common.{arith}
use Rattle.regex_ast.specs.declared.fault.Why.TheVariants as why
use Rattle.project_sources.specs.Faults.{fault, HasNoText}
use Rattle.project_sources.specs.Limits.{most_bytes}
use Rattle.project_definitions.proofs.Steps.{refused_by}
use Rattle.project_model.proofs.Reading.{text_large}
use Rattle.project_model.proofs.content.text_of_file.Goals as goal

pub returns-then-bytes-gt-MOST_BYTES-clause-error : goal.returns-then-bytes-gt-MOST_BYTES-clause-error
unfolding most_bytes
returns-then-bytes-gt-MOST_BYTES-clause-error c =
    refused_by (HasNoText c.args.name.now c.args.bytes.now) (fault c.args.name.now 0 why.LimitFile) c.refused.result (text_large c.args.name.now c.args.bytes.now (omega arith)) c.refused.ensures

pub returns-in-Ok-clause-short : goal.returns-in-Ok-clause-short
unfolding most_bytes
returns-in-Ok-clause-short c = omega (arith, c.in-Ok.ensures.short, c.if-bytes-gt-MOST_BYTES.false)
