use Rattle.std.proofs.Common.{◌++◌, Some, List, length, ap, ◌∙◌}
use Rattle.fsm_base.specs.declared.letters.Pair.{Pair}
use Rattle.fst_algebra.proofs.Relabelled.{as_relabelled, relabelled_letters}
use Rattle.fst_flagged.specs.declared.condition.Condition.{Condition}
use Rattle.fst_flagged.specs.Images.{renumbered}
use Rattle.fst_flagged.proofs.Joined.{joined_stands, joined_letters, joined_relation}
use Rattle.fst_flagged.proofs.joining.union.Goals as goal

pub invariant_of-result : goal.invariant_of-result
invariant_of-result c =
    joined_stands (record { net = c.a.inside.net; conditions = c.a.inside.conditions.items }) (record { net = c.b.inside.net; conditions = c.b.inside.conditions.items }) c.a.invariant c.b.invariant
    c.in-Some.by (length c.as_slice-front.result.now) (length c.as_slice-rest.result.now) c.in-Some.ensures.0 (ap length c.as_slice-front.ensures.value) (ap length c.as_slice-rest.ensures.value) c.in-Some.ensures.1
    c.in_ok-second.second c.in_ok-net.net
    (relabelled_letters (λ (p : Pair). Some (renumbered c.in-Some.by p)) c.b.inside.net c.in_ok-second.second c.in_ok-second.ensures.letters)
    (as_relabelled (λ (p : Pair). Some (renumbered c.in-Some.by p)) c.b.inside.net c.in_ok-second.second c.in_ok-second.ensures.language)
    c.in_ok-net.ensures.letters c.in_ok-net.ensures.language c.in_ok-conditions.conditions.items
    (c.in_ok-conditions.ensures ∙ ap (λ (cs : List Condition). cs ++ c.as_slice-rest.result.now) c.as_slice-front.ensures.value ∙ ap (λ (cs : List Condition). c.a.inside.conditions.items ++ cs) c.as_slice-rest.ensures.value)

pub returns-clause-letters : goal.returns-clause-letters
returns-clause-letters c =
    joined_letters (record { net = c.a.inside.net; conditions = c.a.inside.conditions.items }) (record { net = c.b.inside.net; conditions = c.b.inside.conditions.items }) c.a.invariant c.b.invariant
    c.in-Some.by (length c.as_slice-front.result.now) (length c.as_slice-rest.result.now) c.in-Some.ensures.0 (ap length c.as_slice-front.ensures.value) (ap length c.as_slice-rest.ensures.value) c.in-Some.ensures.1
    c.in_ok-second.second c.in_ok-net.net
    (relabelled_letters (λ (p : Pair). Some (renumbered c.in-Some.by p)) c.b.inside.net c.in_ok-second.second c.in_ok-second.ensures.letters)
    (as_relabelled (λ (p : Pair). Some (renumbered c.in-Some.by p)) c.b.inside.net c.in_ok-second.second c.in_ok-second.ensures.language)
    c.in_ok-net.ensures.letters c.in_ok-net.ensures.language c.in_ok-conditions.conditions.items
    (c.in_ok-conditions.ensures ∙ ap (λ (cs : List Condition). cs ++ c.as_slice-rest.result.now) c.as_slice-front.ensures.value ∙ ap (λ (cs : List Condition). c.a.inside.conditions.items ++ cs) c.as_slice-rest.ensures.value)
    c.args.a.now c.args.b.now c.a.view_is c.b.view_is

pub returns-clause-relation : goal.returns-clause-relation
returns-clause-relation c =
    joined_relation (record { net = c.a.inside.net; conditions = c.a.inside.conditions.items }) (record { net = c.b.inside.net; conditions = c.b.inside.conditions.items }) c.a.invariant c.b.invariant
    c.in-Some.by (length c.as_slice-front.result.now) (length c.as_slice-rest.result.now) c.in-Some.ensures.0 (ap length c.as_slice-front.ensures.value) (ap length c.as_slice-rest.ensures.value) c.in-Some.ensures.1
    c.in_ok-second.second c.in_ok-net.net
    (relabelled_letters (λ (p : Pair). Some (renumbered c.in-Some.by p)) c.b.inside.net c.in_ok-second.second c.in_ok-second.ensures.letters)
    (as_relabelled (λ (p : Pair). Some (renumbered c.in-Some.by p)) c.b.inside.net c.in_ok-second.second c.in_ok-second.ensures.language)
    c.in_ok-net.ensures.letters c.in_ok-net.ensures.language c.in_ok-conditions.conditions.items
    (c.in_ok-conditions.ensures ∙ ap (λ (cs : List Condition). cs ++ c.as_slice-rest.result.now) c.as_slice-front.ensures.value ∙ ap (λ (cs : List Condition). c.a.inside.conditions.items ++ cs) c.as_slice-rest.ensures.value)
    c.args.a.now c.args.b.now c.a.view_is c.b.view_is
