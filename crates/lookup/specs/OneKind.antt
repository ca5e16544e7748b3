-- No two kinds of answer are lawful for one word: the words that a network relates to it are few, or many, or
-- without end.
use Rattle.std.specs.Prelude.{ℕ, List}
use Rattle.fsm_base.specs.declared.letters.Sym.{Sym}
use Rattle.word_relations.specs.Answers.{Answers, Found}
use Rattle.lookup_answers.specs.OneKind.{IsSameKind}
use Rattle.lookup_walk.specs.Answering.{LowerTexts, UpperTexts}
use Rattle.lookup_walk.specs.Nets.{NetView}

-- answers that are both lawful for the upper words of a word are of one kind
abbrev pub OneKindOfUpper : Type 0
OneKindOfUpper =
    (net : NetView) (alphabet : List (Sym × List ℕ)) (word : List Sym) (a b : Found)
    → Answers (UpperTexts net alphabet word) a → Answers (UpperTexts net alphabet word) b → IsSameKind a b

-- the same of its lower words
abbrev pub OneKindOfLower : Type 0
OneKindOfLower =
    (net : NetView) (alphabet : List (Sym × List ℕ)) (word : List Sym) (a b : Found)
    → Answers (LowerTexts net alphabet word) a → Answers (LowerTexts net alphabet word) b → IsSameKind a b
