use Rattle.std.proofs.Common.{◌≡◌, ◌<◌, List, Some, subst, sym, ◌∙◌}
use Rattle.fsm_base.specs.declared.letters.Pair.{Pair}
use Rattle.fsm_base.specs.declared.letters.Sym.{Sym}
use Rattle.word_relations.specs.Relations.{AreSame, IsInverse}
use Rattle.fst_algebra.specs.Relations.{UsesUpper, UsesLower}
use Rattle.fst_algebra.proofs.Relabelled.{as_relabelled, relabelled_letters}
use Rattle.fst_flagged.specs.declared.condition.Condition.{Condition}
use Rattle.fst_flagged.specs.Conditions.{first}
use Rattle.fst_flagged.specs.Flagged.{FlaggedView, FlaggedRelates, StandApart}
use Rattle.fst_flagged.specs.Images.{turned}
use Rattle.fst_flagged.proofs.Stands.{turned_stands, turned_upper, turned_lower, turned_relation}
use Rattle.fst_flagged.proofs.composing.turned.Goals as goal

pub invariant_of-result : goal.invariant_of-result
invariant_of-result c =
    let f : FlaggedView = record { net = c.f.inside.net; conditions = c.f.inside.conditions.items } in
    let net = c.in_ok-net.net in
    subst (λ (cs : List Condition). StandApart (record { net = net; conditions = cs })) (sym (c.in_ok-conditions.ensures ∙ c.as_slice.ensures.value))
    (turned_stands f c.f.invariant net (relabelled_letters (λ (p : Pair). Some (turned p)) f.net net c.in_ok-net.ensures.letters))

pub returns-clause-upper : goal.returns-clause-upper
returns-clause-upper c =
    let f : FlaggedView = record { net = c.f.inside.net; conditions = c.f.inside.conditions.items } in
    let net = c.in_ok-net.net in
    subst (λ (z : FlaggedView). (x : Sym) → UsesUpper net x → x.0 < first → UsesLower z.net x) c.f.view_is
    (turned_upper f c.f.invariant net (relabelled_letters (λ (p : Pair). Some (turned p)) f.net net c.in_ok-net.ensures.letters))

pub returns-clause-lower : goal.returns-clause-lower
returns-clause-lower c =
    let f : FlaggedView = record { net = c.f.inside.net; conditions = c.f.inside.conditions.items } in
    let net = c.in_ok-net.net in
    subst (λ (z : FlaggedView). (x : Sym) → UsesLower net x → UsesUpper z.net x × (x.0 < first)) c.f.view_is
    (turned_lower f c.f.invariant net (relabelled_letters (λ (p : Pair). Some (turned p)) f.net net c.in_ok-net.ensures.letters))

pub returns-clause-relation : goal.returns-clause-relation
returns-clause-relation c =
    let f : FlaggedView = record { net = c.f.inside.net; conditions = c.f.inside.conditions.items } in
    let net = c.in_ok-net.net in
    subst (λ (z : FlaggedView). AreSame (FlaggedRelates (record { net = net; conditions = c.in_ok-conditions.conditions.items })) (IsInverse (FlaggedRelates z))) c.f.view_is
    (subst (λ (cs : List Condition). AreSame (FlaggedRelates (record { net = net; conditions = cs })) (IsInverse (FlaggedRelates f))) (sym (c.in_ok-conditions.ensures ∙ c.as_slice.ensures.value))
    (turned_relation f c.f.invariant net (as_relabelled (λ (p : Pair). Some (turned p)) f.net net c.in_ok-net.ensures.language)))
