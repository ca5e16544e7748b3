use Rattle.std.proofs.Common.{IfSome, subst}
use Rattle.std.proofs.lemmas.Result.{IfOk-weaker}
use Rattle.fsm_base.specs.declared.letters.Pair.{Pair}
use Rattle.fsa.specs.Automaton.{UsesLetter}
use Rattle.fst_flagged.proofs.flagged.small.Goals as goal

pub returns-in_default-clause-letters : goal.returns-in_default-clause-letters
returns-in_default-clause-letters c = IfOk-weaker c.reduced.result _ _ (λ m letters x used. c.in_ok-merged.ensures.letters x (letters x used)) c.reduced.ensures.letters

pub returns-clause-letters : goal.returns-clause-letters
returns-clause-letters c = λ x used.
    let straight = subst (λ o. IfSome o (λ m. (y : Pair) → UsesLetter m y → UsesLetter c.in_ok-merged.merged y)) c.in-Some.is c.in_ok-straight.ensures.letters in
    c.in_ok-merged.ensures.letters x (straight x (c.in_ok-small.ensures.letters x used))
