use Rattle.lang_algebra.specs.Languages.{IsLang}
use Rattle.replace_insertions.proofs.FilledWords.{AreAskedBelow}
use Rattle.replace_insertions.proofs.filling.filled_words.Given as goal

abbrev pub invariant-loop-number : goal.invariant-loop-number
invariant-loop-number l = IsLang l.marks (AreAskedBelow l.side l.optional l.contexts l.marks l.words l.number) l.kept
