use Rattle.std.proofs.lemmas.Result.{IfOk-weaker}
use Rattle.fsa.specs.Language as language
use Rattle.fsa.specs.Complete.{Accepts}
use Rattle.lang_algebra.specs.Languages.{IsLang}
use Rattle.lang_algebra.proofs.Small.{small_made}
use Rattle.lang_algebra.proofs.lang.Lang.of.Goals as goal

pub returns : goal.returns
returns g c =
    let dfa = c.in_ok-dfa.dfa in
    let letters = c.args.letters.now in
    IfOk-weaker c.of_small.result (IsLang dfa.letters (Accepts dfa)) (IsLang letters (language.Accepts c.args.a.now))
    (small_made letters (language.Accepts c.args.a.now) dfa c.in_ok-dfa.ensures.letters
    (λ w. (λ h. (c.in_ok-trim.ensures.language w).0 ((c.in_ok-dfa.ensures.language w).0 h), λ h. (c.in_ok-dfa.ensures.language w).1 ((c.in_ok-trim.ensures.language w).1 h))))
    c.of_small.ensures
