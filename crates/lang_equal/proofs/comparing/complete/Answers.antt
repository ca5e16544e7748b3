use Rattle.lang_equal.proofs.comparing.complete.Goals as goal

pub determine-requires-clause-all : goal.determine-requires-clause-all
determine-requires-clause-all c x used = rw c.letters.ensures.letters (c.in_ok-to_fsa.ensures.letters x used)
