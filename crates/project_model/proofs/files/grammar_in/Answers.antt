use Rattle.std.proofs.Common.{Ok, refl, subst}
use Rattle.project_sources.specs.Faults.{fault}
use Rattle.twolc_grammar.specs.Sections.{ReadsAs}
use Rattle.project_definitions.proofs.Steps.{refused_by}
use Rattle.project_model.proofs.Reading.{newlines_short}
use Rattle.project_model.proofs.Views.{grammar_is}
use Rattle.project_model.proofs.files.grammar_in.Goals as goal

pub read_twolc-requires : goal.read_twolc-requires
read_twolc-requires c = newlines_short c.args.text.now c.requires

pub returns-in-Ok-clause-read : goal.returns-in-Ok-clause-read
returns-in-Ok-clause-read c = subst (λ g. ReadsAs c.args.text.now (Ok g)) (grammar_is c.in-Ok.grammar) c.in-Ok.ensures.says

pub returns-in-Err-Fault-clause-error : goal.returns-in-Err-Fault-clause-error
returns-in-Err-Fault-clause-error c =
    let reads = rw c.in-Err-Fault.field-0-is at c.in-Err-Fault.ensures.says in
    refused_by _ (fault c.args.file.now c.in-Err-Fault.line c.in-Err-Fault.why) c.refused.result (_, reads, refl) c.refused.ensures
