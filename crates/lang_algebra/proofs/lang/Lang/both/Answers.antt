use Rattle.std.proofs.lemmas.Result.{IfOk-weaker}
use Rattle.fsa.specs.Complete.{Accepts}
use Rattle.lang_algebra.specs.Languages.{IsLang}
use Rattle.lang_algebra.proofs.Small.{both_made}
use Rattle.lang_algebra.proofs.lang.Lang.both.Goals as goal

pub returns : goal.returns
returns g c =
    let self = c.args.self.now in
    let other = c.args.other.now in
    let dfa = c.in_ok-dfa.dfa in
    IfOk-weaker c.of_small.result (IsLang dfa.letters (Accepts dfa)) (IsLang self.letters (λ w. Accepts self w × Accepts other w))
    (both_made self other c.self.inside.dfa c.other.inside.dfa dfa c.self.view_is c.other.view_is c.in_ok-dfa.ensures.letters c.in_ok-dfa.ensures.language)
    c.of_small.ensures
