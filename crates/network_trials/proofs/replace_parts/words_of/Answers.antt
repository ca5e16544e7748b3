use Rattle.std.proofs.lemmas.Result.{IfOk-weaker}
use Rattle.fsm_base.specs.declared.letters.Bound.{Bound}
use Rattle.fsm_base.specs.declared.letters.Sym.{Sym}
use Rattle.fsa.specs.Automaton.{Automaton, UsesLetter}
use Rattle.network_algebra.specs.Networks.{UsesOnly}
use Rattle.network_trials.proofs.replace_parts.words_of.Goals as goal

pub returns-in_ok-letter_of-in-Some : goal.returns-in_ok-letter_of-in-Some
returns-in_ok-letter_of-in-Some c =
    let letter = c.in_ok-letter_of-in-Some.field-0 in
    IfOk-weaker c.star-in-Some.result (λ (m : Automaton (Bound Sym)). (x : Bound Sym) → UsesLetter m x → UsesLetter letter x) (UsesOnly c.args.letters.now)
    (λ (m : Automaton (Bound Sym)) only x used. c.in_ok-letter_of-in-Some.ensures x (only x used))
    c.star-in-Some.ensures.letters
