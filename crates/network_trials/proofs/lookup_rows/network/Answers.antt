use Rattle.std.proofs.Common.{sym, subst}
use Rattle.lookup.specs.Answering.{IsOverAlphabet}
use Rattle.network_trials.proofs.lookup_rows.network.Goals as goal

pub returns : goal.returns
returns c = subst (IsOverAlphabet c.args.symbols.now.alphabet) (sym c.in_ok-net.ensures) c.rows.invariant
