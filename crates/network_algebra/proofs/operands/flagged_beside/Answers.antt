use Rattle.std.proofs.Common.{refl, sym, subst}
use Rattle.std.specs.Result.{IfOk}
use Rattle.std.proofs.lemmas.Result.{IfOk-weaker}
use Rattle.network_algebra.specs.Networks.{AreOperands}
use Rattle.network_algebra.specs.declared.operands.Operands.{Operands}
use Rattle.network_algebra.specs.declared.network.Network.{Network}
use Rattle.network_algebra.specs.declared.network.Network.TheVariants.{Words, Pairs, Flagged}
use Rattle.network_algebra.proofs.Conditions.{second_along}
use Rattle.network_algebra.proofs.operands.flagged_beside.Goals as goal

pub returns-in_ok-second-in-Words : goal.returns-in_ok-second-in-Words
returns-in_ok-second-in-Words c =
    let m = c.in_ok-second-in-Words.second in
    let w = c.in-Words.second in
    subst (λ (n : Network). IfOk c.flagged_and_plain.result (AreOperands (Flagged c.args.first) n)) (sym c.in-Words.is)
    (IfOk-weaker c.flagged_and_plain.result (AreOperands (Flagged c.args.first) (Pairs m)) (AreOperands (Flagged c.args.first) (Words w))
    (λ (o : Operands) ok. second_along (Flagged c.args.first) (Words w) m o refl c.in_ok-second-in-Words.ensures.pairs c.in_ok-second-in-Words.ensures.symbols ok) c.flagged_and_plain.ensures)
