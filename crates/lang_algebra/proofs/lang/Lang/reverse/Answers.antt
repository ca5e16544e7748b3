use Rattle.lang_algebra.proofs.lang.Lang.reverse.Goals as goal

pub of-requires-clause-all : goal.of-requires-clause-all
of-requires-clause-all g c x used =
    rw c.letters.ensures.letters (c.in_ok-to_fsa.ensures.letters x (c.in_ok-turned.ensures.letters x used))
