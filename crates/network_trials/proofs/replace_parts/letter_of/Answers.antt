use Rattle.std.proofs.Common.{List, subst}
use Rattle.std.specs.List.{Contains}
use Rattle.std.proofs.lemmas.Result.{IfOk-weaker}
use Rattle.fsm_base.specs.declared.letters.Bound.{Bound}
use Rattle.fsm_base.specs.declared.letters.Sym.{Sym}
use Rattle.fsa.specs.Automaton.{Automaton}
use Rattle.network_algebra.specs.Networks.{UsesOnly}
use Rattle.network_trials.proofs.replace_parts.letter_of.Goals as goal

pub returns : goal.returns
returns c =
    IfOk-weaker c.one_letter.result (UsesOnly c.deref.result.now) (UsesOnly c.args.letters.now)
    (λ (m : Automaton (Bound Sym)) only x used. c.in_ok-found_in.ensures x (subst (λ (ls : List (Bound Sym)). Contains ls x) c.deref.ensures.value (only x used)))
    c.one_letter.ensures.letters
