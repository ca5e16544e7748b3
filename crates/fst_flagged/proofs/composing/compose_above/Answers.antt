use Rattle.std.proofs.Common.{◌<◌}
use Rattle.std.proofs.lemmas.Result.{IfOk-weaker}
use Rattle.fsm_base.specs.declared.letters.Sym.{Sym}
use Rattle.word_relations.specs.Relations.{AreSame, IsInverse, IsComposition}
use Rattle.fst_algebra.specs.Relation.{IsRelated}
use Rattle.fst_algebra.specs.Relations.{UsesUpper, UsesLower}
use Rattle.fst_flagged.specs.Conditions.{first}
use Rattle.fst_flagged.specs.Flagged.{FlaggedRelates}
use Rattle.fst_flagged.proofs.Stands.{composed_above}
use Rattle.fst_flagged.proofs.composing.compose_above.Goals as goal

pub compose_below-requires : goal.compose_below-requires
compose_below-requires c = record {
  upper = λ x uses. c.requires.lower x (c.in_ok-below.ensures.upper x uses);
  lower = λ x uses. c.requires.upper x (c.in_ok-below.ensures.lower x uses);
}

pub returns-clause-upper : goal.returns-clause-upper
returns-clause-upper c =
    IfOk-weaker c.turned-2.result (λ g. (x : Sym) → UsesUpper g.net x → x.0 < first → UsesLower c.in_ok-composed.composed.net x) (λ g. (x : Sym) → UsesUpper g.net x → x.0 < first → UsesUpper c.args.r.now x)
    (λ g upper x uses small. c.in_ok-below.ensures.lower x (c.in_ok-composed.ensures.lower x (upper x uses small))) c.turned-2.ensures.upper

pub returns-clause-lower : goal.returns-clause-lower
returns-clause-lower c =
    IfOk-weaker c.turned-2.result (λ g. (x : Sym) → UsesLower g.net x → UsesUpper c.in_ok-composed.composed.net x × (x.0 < first)) (λ g. (x : Sym) → UsesLower g.net x → UsesLower c.args.f.now.net x)
    (λ g lower x uses. let h = lower x uses in c.in_ok-above.ensures.upper x (c.in_ok-composed.ensures.upper x h.0 h.1) h.1) c.turned-2.ensures.lower

pub returns-clause-relation : goal.returns-clause-relation
returns-clause-relation c =
    IfOk-weaker c.turned-2.result (λ g. AreSame (FlaggedRelates g) (IsInverse (FlaggedRelates c.in_ok-composed.composed))) (λ g. AreSame (FlaggedRelates g) (IsComposition (IsRelated c.args.r.now) (FlaggedRelates c.args.f.now)))
    (λ g back. composed_above (FlaggedRelates c.args.f.now) (FlaggedRelates c.in_ok-above.above) (FlaggedRelates c.in_ok-composed.composed) (FlaggedRelates g) (IsRelated c.args.r.now) (IsRelated c.in_ok-below.below) c.in_ok-above.ensures.relation c.in_ok-below.ensures.relation c.in_ok-composed.ensures.relation back)
    c.turned-2.ensures.relation
