use Rattle.std.proofs.Common.{◌≡◌, ◌+◌, ◌++◌, ◌∷◌, [], arith, subst, sym, take}
use Rattle.std.proofs.lemmas.List.{take_all, take_more}
use Rattle.network_expr.specs.declared.parts.Part.{Part}
use Rattle.network_build.proofs.Uses.{AreGiven, PartUses, given_more, given_none}
use Rattle.network_build.proofs.symbols.add_parts.Goals as goal

pub parts-init : goal.parts-init
parts-init c = given_none PartUses c.args.symbols.now

pub parts-preserved : goal.parts-preserved
parts-preserved c =
    let parts = c.args.parts.now in
    let i = c.parts.part-index in
    let part = c.part-item.result in
    let front = subst (λ (p : Part). take (i + 1) parts ≡ take i parts ++ p ∷ []) (sym c.part-item.is) (take_more parts i part (omega arith)) in
    given_more PartUses c.args.symbols.now c.parts.symbols c.add_network.new.symbols parts i part front c.in_ok-add_network.ensures c.parts.invariant

pub returns : goal.returns
returns c = subst (AreGiven PartUses c.args.symbols.now c.parts.symbols) (take_all c.parts.part-index c.args.parts.now (omega arith)) c.parts.invariant
