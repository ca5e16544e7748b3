use Rattle.std.proofs.Common.{◌<◌, length, subst, sym}
use Rattle.std.proofs.lemmas.List.Elements.{All-same}
use Rattle.fsa_minimal.specs.Fewest.{IsApartFromOthers}
use Rattle.fsa_minimal.proofs.Apart.{class_apart, class_there}
use Rattle.fsa_minimal.proofs.refining.refined.Goals as goal

pub split_by-requires-clause-there : goal.split_by-requires-clause-there
split_by-requires-clause-there g c =
    let n = length c.args.a.now.finals in
    let members = c.in_ok-members.members.items in
    All-same (λ s. s < n) c.deref.result.now members c.deref.ensures.value
    (class_there c.loop-splitter.partition.class_of.items c.loop-splitter.splitter members n c.loop-splitter.invariant.count c.in_ok-members.ensures)

pub split_by-requires-clause-states : goal.split_by-requires-clause-states
split_by-requires-clause-states g c =
    let a = c.args.a.now in
    subst (λ xs. IsApartFromOthers a xs) (sym c.deref.ensures.value)
    (class_apart a c.loop-splitter.partition.class_of.items c.loop-splitter.splitter c.in_ok-members.members.items c.loop-splitter.invariant.apart c.in_ok-members.ensures)
