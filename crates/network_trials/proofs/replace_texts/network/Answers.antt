use Rattle.std.proofs.Common.{◌≡◌, sym, subst}
use Rattle.std.proofs.lemmas.Result.{IfOk-weaker}
use Rattle.lookup.specs.Answering.{IsOverAlphabet}
use Rattle.lookup.specs.Nets.{NetView, plain}
use Rattle.network_trials.proofs.Over.{over_symbols}
use Rattle.network_trials.proofs.replace_texts.network.Goals as goal

pub returns : goal.returns
returns c =
    let alphabet = c.args.symbols.now.alphabet in
    IfOk-weaker c.of.result (λ (net : NetView). net ≡ plain c.in_ok-fsa.fsa) (IsOverAlphabet alphabet)
    (λ (net : NetView) is. subst (IsOverAlphabet alphabet) (sym is) (over_symbols alphabet c.in_ok-fsa.fsa c.in_ok-fsa.ensures))
    c.of.ensures
