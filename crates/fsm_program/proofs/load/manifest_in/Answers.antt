use Rattle.std.proofs.Common.{sym}
use Rattle.fsm_program.proofs.Gathering.{manifest_from, manifest_gone}
use Rattle.fsm_program.proofs.load.manifest_in.Goals as goal

pub returns-in-Some : goal.returns-in-Some
returns-in-Some c = manifest_from c.args.sources.now c.in-Some.content.now c.readable.result (sym c.in-Some.ensures) c.readable.ensures

pub returns-in-None : goal.returns-in-None
returns-in-None c = manifest_gone c.args.sources.now (sym c.in-None.ensures)
