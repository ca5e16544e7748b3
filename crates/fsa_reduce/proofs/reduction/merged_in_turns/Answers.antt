use Rattle.fsa_reduce.proofs.reduction.merged_in_turns.Goals as goal

pub loop-pass-preserved : goal.loop-pass-preserved
loop-pass-preserved g c = (
  λ x u. c.loop-pass.invariant.0 x (c.in_ok-next.ensures.letters x u),
  λ w. (
    λ p. (c.loop-pass.invariant.1 w).0 ((c.in_ok-next.ensures.language w).0 p),
    λ p. (c.in_ok-next.ensures.language w).1 ((c.loop-pass.invariant.1 w).1 p),
  ),
)

pub returns-then-is_last-clause-letters : goal.returns-then-is_last-clause-letters
returns-then-is_last-clause-letters g c = λ x u. c.loop-pass.invariant.0 x (c.in_ok-next.ensures.letters x u)
