use Rattle.std.proofs.Common.{refl}
use Rattle.project_model.specs.Answers.{written_of}
use Rattle.project_model.proofs.Projecting.{entry_is}
use Rattle.project_model.proofs.plan.define.Goals as goal

pub returns : goal.returns
returns c = entry_is c.args.names.now c.args.table.now (written_of c.args.one) _ _ _ refl refl c.in_ok-resolve_body.ensures
