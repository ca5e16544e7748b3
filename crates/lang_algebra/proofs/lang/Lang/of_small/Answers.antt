use Rattle.lang_algebra.proofs.lang.Lang.of_small.Goals as goal

pub returns : goal.returns
returns g c = rw c.of_dfa.ensures.same (record {
  complete = rw c.of_dfa.ensures.same at c.of_dfa.ensures.complete;
  over = c.in_ok-small.ensures.letters;
  words = c.in_ok-small.ensures.language;
})
