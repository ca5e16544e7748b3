use Rattle.std.proofs.Common.{IsTrue}
use Rattle.lookup_answers.proofs.AnswerKinds.{same_kind}
use Rattle.lookup_answers.proofs.laws.one_kind.Goals as goal

pub returns : goal.returns
returns c = λ T. same_kind (λ text. IsTrue (T text))
