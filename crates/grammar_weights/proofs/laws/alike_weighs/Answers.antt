use Rattle.std.proofs.Common.{IsTrue}
use Rattle.grammar_weights.proofs.Lawful.{alike_weighs as proved}
use Rattle.grammar_weights.proofs.laws.alike_weighs.Goals as goal

pub returns : goal.returns
returns c = λ has. proved (λ leaf. IsTrue (has leaf))
