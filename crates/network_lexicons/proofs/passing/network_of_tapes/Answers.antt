use Rattle.std.proofs.Common.{IfSome, subst}
use Rattle.std.proofs.lemmas.Result.{IfOk-weaker}
use Rattle.fsm_base.specs.declared.letters.Pair.{Pair}
use Rattle.fsa.specs.Automaton.{UsesLetter}
use Rattle.word_relations.specs.Relations.{AreSame}
use Rattle.fst_algebra.specs.Relation.{IsRelated}
use Rattle.flag_diacritics.specs.Tapes.{TapesRelate, UsesPair}
use Rattle.network_lexicons.proofs.Resolutions.{letters_of_resolved, relates_same}
use Rattle.network_lexicons.proofs.passing.network_of_tapes.Goals as goal

pub returns-in-Some-clause-letters : goal.returns-in-Some-clause-letters
returns-in-Some-clause-letters c =
    let m = c.in-Some.resolved in
    let pairs = subst (λ o. IfSome o (λ n. (x : Pair) → UsesLetter n x → UsesPair c.args.tapes.now x)) c.in-Some.is c.in_ok-resolved.ensures.pairs in
    IfOk-weaker _ _ _ (letters_of_resolved c.args.tapes.now m pairs) c.small_relation.ensures.letters

pub returns-in-Some-clause-meaning : goal.returns-in-Some-clause-meaning
returns-in-Some-clause-meaning c =
    let m = c.in-Some.resolved in
    let same = subst (λ o. IfSome o (λ n. AreSame (IsRelated n) (TapesRelate c.args.tapes.now c.args.flags.now))) c.in-Some.is c.in_ok-resolved.ensures.relation in
    IfOk-weaker _ _ _ (relates_same (IsRelated m) (TapesRelate c.args.tapes.now c.args.flags.now) same) c.small_relation.ensures.meaning
