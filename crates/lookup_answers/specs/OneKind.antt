-- One kind of answer is lawful for a set of texts: they are few, or many, or without end. A set is a test here, so that the law
-- speaks of every set.
use Rattle.std.specs.Prelude.{ℕ, Bool, IsTrue, List}
use Rattle.word_relations.specs.Answers.{Answers, Found, strings, more, loop}

abbrev pub IsSameKind : Found → Found → Type 0
IsSameKind (strings texts) (strings others) = Unit {0}
IsSameKind more more = Unit {0}
IsSameKind (loop before round after) (loop before2 round2 after2) = Unit {0}
IsSameKind _ _ = ⊥

-- answers that are both lawful for a set of texts are of one kind
abbrev pub OneKind : Type 0
OneKind = (T : List ℕ → Bool) (a b : Found) → Answers (λ text. IsTrue (T text)) a → Answers (λ text. IsTrue (T text)) b → IsSameKind a b
