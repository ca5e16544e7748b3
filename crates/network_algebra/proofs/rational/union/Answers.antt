use Rattle.std.proofs.Common.{◌⊎◌}
use Rattle.std.proofs.lemmas.Result.{IfOk-weaker}
use Rattle.fsa.specs.Automaton.{UsesLetter}
use Rattle.network_algebra.proofs.Smaller.{letters_used}
use Rattle.network_algebra.proofs.rational.union.Goals as goal

pub returns-clause-letters : goal.returns-clause-letters
returns-clause-letters g c = IfOk-weaker _ _ _ (λ m used. letters_used m c.in_ok-union.field-0 (λ x. UsesLetter c.args.a.now x ⊎ UsesLetter c.args.b.now x) used c.in_ok-union.ensures.letters) c.reduced-2.ensures.letters
