use Rattle.lang_algebra.proofs.Counted.{complement_fewest}
use Rattle.lang_algebra.proofs.Made.{complement_made}
use Rattle.lang_algebra.proofs.lang.Lang.complement.Goals as goal

pub returns : goal.returns
returns g c =
    complement_made c.args.self.now c.self.inside.dfa c.in_ok-dfa.dfa c.of_dfa.result c.self.view_is c.of_dfa.ensures.same c.of_dfa.ensures.complete
    c.in_ok-dfa.ensures.letters c.in_ok-dfa.ensures.language

pub of_dfa-requires : goal.of_dfa-requires
of_dfa-requires g c =
    complement_fewest c.self.inside.dfa c.in_ok-dfa.dfa c.self.invariant.0 c.self.invariant.1 c.in_ok-dfa.ensures.letters c.in_ok-dfa.ensures.states c.in_ok-dfa.ensures.language
