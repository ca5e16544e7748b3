use Rattle.lookup_walk.specs.Answering.{UpperTexts, LowerTexts}
use Rattle.lookup_answers.proofs.AnswerKinds.{same_kind}
use Rattle.lookup.proofs.laws.one_kind.Goals as goal

pub returns-clause-upper : goal.returns-clause-upper
returns-clause-upper c = λ m alphabet word. same_kind (UpperTexts m alphabet word)

pub returns-clause-lower : goal.returns-clause-lower
returns-clause-lower c = λ m alphabet word. same_kind (LowerTexts m alphabet word)
