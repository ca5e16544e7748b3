use Rattle.word_relations.specs.Words.{IsOver}
use Rattle.fsa.specs.Complete as complete
use Rattle.fsa.specs.Language.{Accepts}
use Rattle.lang_algebra.specs.Languages.{IsLang}
use Rattle.replace_directed.proofs.Kept.{AreKeptBelow}
use Rattle.replace_directed.proofs.keeping.kept_at_each.Given as goal

abbrev pub invariant-loop-number : goal.invariant-loop-number
invariant-loop-number l = IsLang l.marks (AreKeptBelow (complete.Accepts l.copies) (complete.Accepts l.others) l.size l.contexts l.marks (λ w. IsOver l.marks w × Accepts l.words w) l.number) l.kept
