use Rattle.std.proofs.Common.{refl, ap, Some, ◌∙◌}
use Rattle.std.proofs.lemmas.List.{length-set}
use Rattle.std.proofs.lemmas.Option.{slice_get_read}
use Rattle.fsa_explore.proofs.Marking.{IsMarking-add}
use Rattle.fsa_explore.proofs.Added.{Adds-one}
use Rattle.fsa_explore.proofs.number_set.NumberSet.add.Goals as goal

pub invariant_of-self-2 : goal.invariant_of-self-2
invariant_of-self-2 c =
    let within = rw (← c.self.view_is) at c.requires in
    rw c.in_ok-push.ensures.items
    (IsMarking-add _ _ c.args.number c.self.invariant (slice_get_read _ _ c.args.number c.index.result.now refl within c.index.ensures ∙ ap Some c.if-index.false))

pub returns-clause-ok : goal.returns-clause-ok
returns-clause-ok c = rw (← c.self.view_is) (Adds-one _ _ c.args.number (length-set _ c.args.number _) c.in_ok-push.ensures.items)
