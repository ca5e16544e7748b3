use Rattle.std.proofs.Common.{refl, sym, subst}
use Rattle.std.specs.Result.{IfOk}
use Rattle.std.proofs.lemmas.Result.{IfOk-weaker}
use Rattle.network_algebra.specs.Networks.{AreOperands}
use Rattle.network_algebra.specs.declared.operands.Operands.{Operands}
use Rattle.network_algebra.specs.declared.operands.Operands.TheVariants.{Pairs as BothPairs}
use Rattle.network_algebra.specs.declared.network.Network.{Network}
use Rattle.network_algebra.specs.declared.network.Network.TheVariants.{Words, Pairs, Flagged}
use Rattle.network_algebra.proofs.Conditions.{first_along}
use Rattle.network_algebra.proofs.operands.words_beside.Goals as goal

pub returns-in_ok-first-in-Pairs : goal.returns-in_ok-first-in-Pairs
returns-in_ok-first-in-Pairs c =
    let m = c.in_ok-first-in-Pairs.first in
    subst (λ (n : Network). AreOperands (Words c.args.first) n (BothPairs m c.in-Pairs.second)) (sym c.in-Pairs.is)
    (refl, c.in_ok-first-in-Pairs.ensures.pairs, (λ u w. (λ h. h, λ h. h)), c.in_ok-first-in-Pairs.ensures.symbols, (λ symbols h. h))

pub returns-in_ok-first-in-Flagged : goal.returns-in_ok-first-in-Flagged
returns-in_ok-first-in-Flagged c =
    let m = c.in_ok-first-in-Flagged.first in
    subst (λ (n : Network). IfOk c.plain_and_flagged.result (AreOperands (Words c.args.first) n)) (sym c.in-Flagged.is)
    (IfOk-weaker c.plain_and_flagged.result (AreOperands (Pairs m) (Flagged c.in-Flagged.second)) (AreOperands (Words c.args.first) (Flagged c.in-Flagged.second))
    (λ (o : Operands) ok. first_along (Words c.args.first) (Flagged c.in-Flagged.second) m o refl c.in_ok-first-in-Flagged.ensures.pairs c.in_ok-first-in-Flagged.ensures.symbols ok) c.plain_and_flagged.ensures)
