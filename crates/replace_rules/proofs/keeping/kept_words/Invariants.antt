use Rattle.word_relations.specs.Words.{IsOver}
use Rattle.fsa.specs.Language.{Accepts}
use Rattle.lang_algebra.specs.Languages.{IsLang}
use Rattle.replace_rules.proofs.KeptWords.{KeepsBelow}
use Rattle.replace_rules.proofs.keeping.kept_words.Given as goal

abbrev pub invariant-loop-number : goal.invariant-loop-number
invariant-loop-number l = IsLang l.marks (λ w. (IsOver l.marks w × Accepts l.words w) × KeepsBelow l.optional l.places l.number w) l.kept
