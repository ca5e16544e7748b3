use Rattle.std.proofs.Common.{inl, inr}
use Rattle.lang_algebra.proofs.lang.Lang.union.Goals as goal

pub of-requires-clause-all : goal.of-requires-clause-all
of-requires-clause-all g c x used =
    rw c.letters.ensures.letters (elim (c.in_ok-either.ensures.letters x used) [
      | inl first ↦ c.in_ok-to_fsa.ensures.letters x first
      | inr second ↦ rw c.requires at (c.in_ok-to_fsa-2.ensures.letters x second)
    ])
