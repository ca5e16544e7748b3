use Rattle.std.proofs.Common.{◌≡◌, ◌<◌, Some, IfSome, refl, subst}
use Rattle.std.proofs.lemmas.Result.{IfOk-weaker}
use Rattle.fsm_base.specs.declared.letters.Pair.{Pair}
use Rattle.fsm_base.specs.declared.letters.Sym.{Sym}
use Rattle.word_relations.specs.Relations.{AreSame}
use Rattle.fst_algebra.specs.Relation.{IsRelated}
use Rattle.fst_algebra.specs.Relations.{UsesLower, UsesUpper}
use Rattle.flag_diacritics.specs.Tapes.{TapesRelate, UsesPair}
use Rattle.fst_flagged.specs.Conditions.{first}
use Rattle.fst_flagged.specs.Flagged.{FlaggedRelates}
use Rattle.network_lexicons.proofs.Resolutions.{kept_over, letters_of_resolved, relates_same}
use Rattle.network_lexicons.proofs.passing.flags_kept.Goals as goal

pub returns-in-Some-clause-letters : goal.returns-in-Some-clause-letters
returns-in-Some-clause-letters c symbols over =
    let tapes = c.args.tapes.now in
    let upper = subst (λ o. IfSome o (λ f. (x : Sym) → UsesUpper f.net x → x.0 < first → (pair : Pair) × UsesPair tapes pair × (pair.up ≡ Some x))) c.in-Some.is c.in_ok-flagged.ensures.upper in
    let lower = subst (λ o. IfSome o (λ f. (x : Sym) → UsesLower f.net x → (pair : Pair) × UsesPair tapes pair × (pair.low ≡ Some x))) c.in-Some.is c.in_ok-flagged.ensures.lower in
    kept_over tapes symbols over c.in-Some.flagged upper lower

pub returns-in-Some-clause-meaning : goal.returns-in-Some-clause-meaning
returns-in-Some-clause-meaning c = record {
  kind_is = refl;
  pairs = subst (λ o. IfSome o (λ f. AreSame (FlaggedRelates f) (TapesRelate c.args.tapes.now c.args.flags.now))) c.in-Some.is c.in_ok-flagged.ensures.relation;
}

pub returns-in_ok-resolved-in-None-clause-letters : goal.returns-in_ok-resolved-in-None-clause-letters
returns-in_ok-resolved-in-None-clause-letters c =
    IfOk-weaker _ _ _ (letters_of_resolved c.args.tapes.now c.in_ok-resolved-in-None.resolved c.in_ok-resolved-in-None.ensures.pairs) c.small_relation.ensures.letters

pub returns-in_ok-resolved-in-None-clause-meaning : goal.returns-in_ok-resolved-in-None-clause-meaning
returns-in_ok-resolved-in-None-clause-meaning c =
    IfOk-weaker _ _ _ (relates_same (IsRelated c.in_ok-resolved-in-None.resolved) (TapesRelate c.args.tapes.now c.args.flags.now) c.in_ok-resolved-in-None.ensures.relation) c.small_relation.ensures.meaning
