use Rattle.std.proofs.Common.{arith, subst}
use Rattle.std.proofs.lemmas.List.{take_all, take_more}
use Rattle.expr_leaves.specs.Leaves.{seen}
use Rattle.network_build.specs.Gathered.{AddsLeaves}
use Rattle.network_build.proofs.Gathering.{adds_more, adds_none, adds_one, seen_joined}
use Rattle.network_build.proofs.leaf_symbols.add_leaves.Goals as goal

pub leaves-init : goal.leaves-init
leaves-init c = adds_none c.args.symbols.now

pub leaves-preserved : goal.leaves-preserved
leaves-preserved c =
    let leaves = c.args.leaves.now in
    let i = c.leaves.leaf-index in
    adds_more seen seen_joined c.args.symbols.now c.leaves.symbols c.add_symbol.new.symbols leaves i _ (take_more leaves i _ (omega arith))
    (adds_one c.leaves.symbols c.add_symbol.new.symbols _ c.in_ok-add_symbol.ensures) c.leaves.invariant

pub returns : goal.returns
returns c = subst (λ xs. AddsLeaves c.args.symbols.now c.leaves.symbols (seen xs)) (take_all c.leaves.leaf-index c.args.leaves.now (omega arith)) c.leaves.invariant
