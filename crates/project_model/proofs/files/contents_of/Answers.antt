use Rattle.std.proofs.Common.{arith}
use Rattle.project_model.proofs.FileSteps.{defined_more, fault_here, free_more}
use Rattle.project_model.proofs.Glossing.{glossed_more}
use Rattle.project_model.proofs.files.contents_of.Goals as goal

pub returns-in-Err-clause-error : goal.returns-in-Err-clause-error
returns-in-Err-clause-error c = fault_here c.args.sources.now c.args.lines.now c.lines.line-index c.line-item.result (omega arith) c.line-item.is c.in-Err.error c.lines.invariant.free c.in-Err.ensures.error

pub lines-preserved : goal.lines-preserved
lines-preserved c =
    let more = c.in-Ok.ensures.written in
    record {
      defines = defined_more c.args.sources.now c.args.lines.now c.lines.line-index c.line-item.result (omega arith) c.line-item.is _ _ c.lines.invariant.defines more;
      glosses = glossed_more c.args.sources.now c.args.lines.now c.lines.line-index c.line-item.result (omega arith) c.line-item.is _ _ c.lines.invariant.glosses c.in-Ok.ensures.glosses;
      free = free_more c.args.sources.now c.args.lines.now c.lines.line-index c.line-item.result (omega arith) c.line-item.is c.lines.invariant.free more.faultless;
    }
