use Rattle.lookup.proofs.KeptPaths.{within_turned}
use Rattle.lookup.proofs.Turning.{turn_from}
use Rattle.lookup.proofs.turns.turn_through.Goals as goal

pub grow-requires-clause-within : goal.grow-requires-clause-within
grow-requires-clause-within g c = within_turned c.args.edges.now c.args.rows.now c.requires.rows c.args.count c.requires.within

pub grow-requires-clause-root : goal.grow-requires-clause-root
grow-requires-clause-root g c = (c.requires.within c.args.edge c.requires.edge).0

pub returns-in_default-2-clause-none : goal.returns-in_default-2-clause-none
returns-in_default-2-clause-none g c = λ on.
    let none = rw c.in_default-2.is at c.in_ok-before.ensures.none in
    none c.args.edges.now c.args.rows.now c.args.edge.from c.requires.rows c.in_ok-to_edge.ensures.tree on.comes

pub returns-in_default-3-clause-none : goal.returns-in_default-3-clause-none
returns-in_default-3-clause-none g c = λ on.
    let none = rw c.in_default-3.is at c.in_ok-round.ensures.none in
    none c.args.edges.now c.args.rows.now c.args.edge.from c.requires.rows c.in_ok-to_edge.ensures.tree on.goes_round

pub returns-in_default-4-clause-none : goal.returns-in_default-4-clause-none
returns-in_default-4-clause-none g c = λ on.
    let none = rw c.in_default-4.is at c.in_ok-after.ensures.none in
    none c.args.edges.now c.args.rows.now 0 c.requires.rows c.requires.to_end on.leaves

pub returns-clause-found : goal.returns-clause-found
returns-clause-found g c =
    let edges = c.args.edges.now in
    let rows = c.args.rows.now in
    let edge = c.args.edge in
    let comes = rw c.in-Some-2.is at c.in_ok-before.ensures.some in
    let goes = rw c.in-Some-3.is at c.in_ok-round.ensures.some in
    let leaves = rw c.in-Some-4.is at c.in_ok-after.ensures.some in
    let longer = c.in_ok-insert.ensures.items in
    rw longer
    (turn_from edges edge c.in-Some.letter c.requires.edge c.in-Some.is c.in-Some-2.before.items c.in-Some-3.round.items c.in-Some-4.after.items
    (comes edges rows edge.from c.requires.rows c.in_ok-to_edge.ensures.tree) (goes edges rows edge.from c.requires.rows c.in_ok-to_edge.ensures.tree)
    (leaves edges rows 0 c.requires.rows c.requires.to_end))
