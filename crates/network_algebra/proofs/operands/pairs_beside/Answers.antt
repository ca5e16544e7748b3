use Rattle.std.proofs.Common.{refl, sym, subst}
use Rattle.network_algebra.specs.Networks.{AreOperands}
use Rattle.network_algebra.specs.declared.operands.Operands.TheVariants.{Pairs as BothPairs}
use Rattle.network_algebra.specs.declared.network.Network.{Network}
use Rattle.network_algebra.specs.declared.network.Network.TheVariants.{Pairs}
use Rattle.network_algebra.proofs.operands.pairs_beside.Goals as goal

pub returns-in_ok-second-in-Words : goal.returns-in_ok-second-in-Words
returns-in_ok-second-in-Words c =
    subst (λ (n : Network). AreOperands (Pairs c.args.first) n (BothPairs c.args.first c.in_ok-second-in-Words.second)) (sym c.in-Words.is)
    (refl, (λ u w. (λ h. h, λ h. h)), c.in_ok-second-in-Words.ensures.pairs, (λ symbols h. h), c.in_ok-second-in-Words.ensures.symbols)
