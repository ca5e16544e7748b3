use Rattle.std.proofs.Common.{◌≡◌, ◌<◌, List, subst, sym, ◌∙◌}
use Rattle.fsm_base.specs.declared.letters.Sym.{Sym}
use Rattle.word_relations.specs.Relations.{AreSame, IsComposition}
use Rattle.fst_algebra.specs.Relation.{IsRelated}
use Rattle.fst_algebra.specs.Relations.{UsesUpper}
use Rattle.fst_flagged.specs.declared.condition.Condition.{Condition}
use Rattle.fst_flagged.specs.Conditions.{first}
use Rattle.fst_flagged.specs.Flagged.{FlaggedView, FlaggedRelates, StandApart}
use Rattle.fst_flagged.proofs.Stands.{composed_stands, composed_relation}
use Rattle.fst_flagged.proofs.composing.compose_below.Goals as goal

pub invariant_of-result : goal.invariant_of-result
invariant_of-result c =
    let f : FlaggedView = record { net = c.f.inside.net; conditions = c.f.inside.conditions.items } in
    let net = c.in_ok-net.net in
    subst (λ (cs : List Condition). StandApart (record { net = net; conditions = cs })) (sym (c.in_ok-conditions.ensures ∙ c.as_slice.ensures.value))
    (composed_stands f c.f.invariant c.args.s.now net c.requires c.in_ok-net.ensures.letters c.in_ok-net.ensures.upper c.in_ok-net.ensures.lower)

pub returns-clause-upper : goal.returns-clause-upper
returns-clause-upper c =
    let net = c.in_ok-net.net in
    subst (λ (z : FlaggedView). (x : Sym) → UsesUpper net x → x.0 < first → UsesUpper z.net x) c.f.view_is (λ x uses small. c.in_ok-net.ensures.upper x uses)

pub returns-clause-lower : goal.returns-clause-lower
returns-clause-lower c = c.in_ok-net.ensures.lower

pub returns-clause-relation : goal.returns-clause-relation
returns-clause-relation c =
    let f : FlaggedView = record { net = c.f.inside.net; conditions = c.f.inside.conditions.items } in
    let net = c.in_ok-net.net in
    subst (λ (z : FlaggedView). AreSame (FlaggedRelates (record { net = net; conditions = c.in_ok-conditions.conditions.items })) (IsComposition (FlaggedRelates z) (IsRelated c.args.s.now))) c.f.view_is
    (subst (λ (cs : List Condition). AreSame (FlaggedRelates (record { net = net; conditions = cs })) (IsComposition (FlaggedRelates f) (IsRelated c.args.s.now))) (sym (c.in_ok-conditions.ensures ∙ c.as_slice.ensures.value))
    (composed_relation f c.args.s.now net c.in_ok-net.ensures.relation))
