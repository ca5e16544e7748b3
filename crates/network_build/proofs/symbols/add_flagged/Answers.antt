use Rattle.std.proofs.Common.{arith, subst}
use Rattle.std.proofs.lemmas.List.{take_all, take_more}
use Rattle.network_build.proofs.Uses.{AreGiven, RelatesLetter, given_more, given_none}
use Rattle.network_build.proofs.symbols.add_flagged.Goals as goal

pub edges-init : goal.edges-init
edges-init c = given_none RelatesLetter c.args.symbols.now

pub edges-preserved : goal.edges-preserved
edges-preserved c =
    given_more RelatesLetter c.args.symbols.now c.edges.symbols c.add_pair_letters.new.symbols c.args.edges.now c.edges.edge-index _ (take_more c.args.edges.now c.edges.edge-index _ (omega arith)) c.in_ok-add_pair_letters.ensures c.edges.invariant

pub returns : goal.returns
returns c = subst (AreGiven RelatesLetter c.args.symbols.now c.edges.symbols) (take_all c.edges.edge-index c.args.edges.now (omega arith)) c.edges.invariant
