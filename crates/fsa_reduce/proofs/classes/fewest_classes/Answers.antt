use Rattle.std.proofs.Common.{IfSome, subst}
use Rattle.fsa_rational.proofs.Walks.{same_elements}
use Rattle.fsa_reduce.specs.Classes.{AreClasses}
use Rattle.fsa_reduce.specs.declared.classes.Classes.{Classes}
use Rattle.fsa_reduce.proofs.Renumbering.{renumbered_start, renumbered_alike, alike_elements}
use Rattle.fsa_reduce.proofs.classes.fewest_classes.Goals as goal

pub split-requires : goal.split-requires
split-requires c = λ e h. (c.requires.within e ((same_elements c.args.edges.now c.in_ok-of.field-0 c.in_ok-of.ensures e).0 h)).1

pub returns-clause-start : goal.returns-clause-start
returns-clause-start c =
    let finals = c.args.finals.now in
    let rows = c.in_ok-of.field-0 in
    let found = subst (λ o. IfSome o (λ (s : Classes). AreClasses finals rows s.of_states.items s.count)) c.in-Some.is c.in_ok-found.ensures in
    let is = rw c.deref.ensures.value at c.in_ok-of_states.ensures in
    renumbered_start finals rows c.in-Some.found.of_states.items c.in_ok-of_states.of_states.items c.in-Some.found.count c.requires.start found is

pub returns-clause-alike : goal.returns-clause-alike
returns-clause-alike c =
    let finals = c.args.finals.now in
    let rows = c.in_ok-of.field-0 in
    let found = subst (λ o. IfSome o (λ (s : Classes). AreClasses finals rows s.of_states.items s.count)) c.in-Some.is c.in_ok-found.ensures in
    let classes = c.in-Some.found.of_states.items in
    let numbers = c.in_ok-of_states.of_states.items in
    let count = c.in-Some.found.count in
    let is = rw c.deref.ensures.value at c.in_ok-of_states.ensures in
    alike_elements finals rows c.args.edges.now numbers count (same_elements c.args.edges.now rows c.in_ok-of.ensures)
    (renumbered_alike finals rows classes numbers count c.requires.start found is)
