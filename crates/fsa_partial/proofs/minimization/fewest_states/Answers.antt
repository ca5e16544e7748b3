use Rattle.fsa_partial.proofs.Fewest.{fewest}
use Rattle.fsa_partial.proofs.minimization.fewest_states.Goals as goal

pub returns-then-has_fewest-clause-fewest : goal.returns-then-has_fewest-clause-fewest
returns-then-has_fewest-clause-fewest g c = fewest c.in_ok-small.small (c.in_ok-has_fewest.ensures c.if-has_fewest.true)

pub returns-then-has_fewest-clause-letters : goal.returns-then-has_fewest-clause-letters
returns-then-has_fewest-clause-letters g c = λ x uses.
    (rw c.in-Some.is at c.in_ok-reached.ensures.letters) x (c.in_ok-trimmed.ensures.letters x (c.in_ok-small.ensures.letters x uses))

pub returns-then-has_fewest-clause-language : goal.returns-then-has_fewest-clause-language
returns-then-has_fewest-clause-language g c = λ w.
    let one = c.in_ok-small.ensures.language w in
    let two = c.in_ok-trimmed.ensures.language w in
    let three = (rw c.in-Some.is at c.in_ok-reached.ensures.language) w in
    (λ h. three.0 (two.0 (one.0 h)), λ h. one.1 (two.1 (three.1 h)))
