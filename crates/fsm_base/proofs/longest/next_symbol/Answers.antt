use Rattle.fsm_base.proofs.LoneLemmas.{next_lone}
use Rattle.fsm_base.proofs.longest.next_symbol.Goals as goal

pub returns-in-Some : goal.returns-in-Some
returns-in-Some c = next_lone c.args.entries.now c.args.lone.now c.args.bytes.now c.in-Some.symbol c.requires.lone c.in-Some.ensures
