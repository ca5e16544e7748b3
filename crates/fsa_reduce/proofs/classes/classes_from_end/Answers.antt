use Rattle.fsa_rational.proofs.Walks.{same_elements}
use Rattle.fsa_reduce.proofs.Renumbering.{renumbered_start, renumbered_alike, alike_elements}
use Rattle.fsa_reduce.proofs.classes.classes_from_end.Goals as goal

pub classes_back-requires : goal.classes_back-requires
classes_back-requires c = λ e h. c.requires.within e ((same_elements c.args.edges.now c.in_ok-of.field-0 c.in_ok-of.ensures e).0 h)

pub returns : goal.returns
returns c =
    let finals = c.args.finals.now in
    let rows = c.in_ok-of.field-0 in
    let classes = c.in_ok-found.found.of_states.items in
    let numbers = c.in_ok-of_states.of_states.items in
    let count = c.in_ok-found.found.count in
    let is = rw c.deref.ensures.value at c.in_ok-of_states.ensures in
    record {
      start = renumbered_start finals rows classes numbers count c.requires.start c.in_ok-found.ensures is;
      alike = alike_elements finals rows c.args.edges.now numbers count (same_elements c.args.edges.now rows c.in_ok-of.ensures)
          (renumbered_alike finals rows classes numbers count c.requires.start c.in_ok-found.ensures is);
    }
