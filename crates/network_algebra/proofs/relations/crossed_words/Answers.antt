use Rattle.std.proofs.lemmas.Result.{IfOk-weaker}
use Rattle.fsa.specs.Automaton.{UsesLetter}
use Rattle.fsa.specs.Language.{Accepts}
use Rattle.word_relations.specs.Relations.{IsCross}
use Rattle.network_algebra.proofs.Smaller.{lower_used, same_relation, upper_used}
use Rattle.network_algebra.proofs.relations.crossed_words.Goals as goal

pub returns-clause-upper : goal.returns-clause-upper
returns-clause-upper c = IfOk-weaker _ _ _ (λ m used. upper_used m c.in_ok-cross.field-0 (UsesLetter c.args.a.now) used c.in_ok-cross.ensures.upper) c.reduced-2.ensures.letters

pub returns-clause-lower : goal.returns-clause-lower
returns-clause-lower c = IfOk-weaker _ _ _ (λ m used. lower_used m c.in_ok-cross.field-0 (UsesLetter c.args.b.now) used c.in_ok-cross.ensures.lower) c.reduced-2.ensures.letters

pub returns-clause-relation : goal.returns-clause-relation
returns-clause-relation c =
    IfOk-weaker _ _ _ (λ m same. same_relation m c.in_ok-cross.field-0 (IsCross (Accepts c.args.a.now) (Accepts c.args.b.now)) same c.in_ok-cross.ensures.relation) c.reduced-2.ensures.language
