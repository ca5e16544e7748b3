use Rattle.lang_algebra.proofs.lang.Lang.star.Goals as goal

pub of-requires-clause-all : goal.of-requires-clause-all
of-requires-clause-all g c x used =
    rw c.letters.ensures.letters (c.in_ok-to_fsa.ensures.letters x (c.in_ok-repeated.ensures.letters x used))
