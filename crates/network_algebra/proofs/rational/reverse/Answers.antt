use Rattle.std.proofs.lemmas.Result.{IfOk-weaker}
use Rattle.fsa.specs.Automaton.{UsesLetter}
use Rattle.network_algebra.proofs.Smaller.{letters_used}
use Rattle.network_algebra.proofs.rational.reverse.Goals as goal

pub returns-clause-letters : goal.returns-clause-letters
returns-clause-letters g c = IfOk-weaker _ _ _ (λ m used. letters_used m c.in_ok-reverse.field-0 (UsesLetter c.args.a.now) used c.in_ok-reverse.ensures.letters) c.reduced-2.ensures.letters
