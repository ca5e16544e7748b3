use Rattle.std.proofs.Common.{IfSome, subst}
use Rattle.std.proofs.lemmas.Result.{IfOk-weaker}
use Rattle.fsm_base.specs.declared.letters.Pair.{Pair}
use Rattle.fsa.specs.Automaton.{Automaton, UsesLetter}
use Rattle.network_algebra.proofs.straightening.straightened.Goals as goal

pub returns-in-Some-clause-letters : goal.returns-in-Some-clause-letters
returns-in-Some-clause-letters c =
    let straight = subst (λ o. IfSome o (λ (m : Automaton Pair). (x : Pair) → UsesLetter m x → UsesLetter c.args.a x)) c.in-Some.is c.in_ok-straight.ensures.letters in
    IfOk-weaker c.reduced.result _ _ (λ m letters x used. straight x (letters x used)) c.reduced.ensures.letters
