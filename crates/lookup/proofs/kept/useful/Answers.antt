use Rattle.std.proofs.Common.{sym, subst}
use Rattle.lookup.specs.Graph.{IsWithin}
use Rattle.lookup.proofs.KeptPaths.{between_is, kept_same, kept_useful, tree_from, tree_to, within_moved, within_turned}
use Rattle.lookup.proofs.kept.useful.Goals as goal

pub grow-requires-clause-within : goal.grow-requires-clause-within
grow-requires-clause-within g c = within_moved c.args.edges.now c.in_ok-rows.rows c.in_ok-rows.ensures c.args.count c.requires.within

pub grow-requires-2-clause-within : goal.grow-requires-2-clause-within
grow-requires-2-clause-within g c = within_turned c.args.edges.now c.in_ok-reversed.reversed c.in_ok-reversed.ensures c.args.count c.requires.within

pub between-requires-clause-left : goal.between-requires-clause-left
between-requires-clause-left g c = subst (λ n. IsWithin c.args.edges.now n) (sym c.in_ok-from_start.ensures.bound) c.requires.within

pub between-requires-clause-entered : goal.between-requires-clause-entered
between-requires-clause-entered g c = subst (λ n. IsWithin c.args.edges.now n) (sym c.in_ok-to_end.ensures.bound) c.requires.within

pub returns-clause-among : goal.returns-clause-among
returns-clause-among g c = λ e h. ((c.in_ok-kept.ensures e).0 h).0

pub returns-clause-useful : goal.returns-clause-useful
returns-clause-useful g c =
    let edges = c.args.edges.now in
    let l = tree_from edges c.in_ok-rows.rows c.in_ok-rows.ensures 1 c.in_ok-from_start.from_start c.in_ok-from_start.ensures.tree in
    let r = tree_to edges c.in_ok-reversed.reversed c.in_ok-reversed.ensures 0 c.in_ok-to_end.to_end c.in_ok-to_end.ensures.tree in
    kept_useful edges c.in_ok-kept.kept.items (between_is edges c.in_ok-kept.kept.items c.in_ok-from_start.from_start.reached.found c.in_ok-to_end.to_end.reached.found l r c.in_ok-kept.ensures)

pub returns-clause-same : goal.returns-clause-same
returns-clause-same g c =
    let edges = c.args.edges.now in
    let l = tree_from edges c.in_ok-rows.rows c.in_ok-rows.ensures 1 c.in_ok-from_start.from_start c.in_ok-from_start.ensures.tree in
    let r = tree_to edges c.in_ok-reversed.reversed c.in_ok-reversed.ensures 0 c.in_ok-to_end.to_end c.in_ok-to_end.ensures.tree in
    kept_same edges c.in_ok-kept.kept.items (between_is edges c.in_ok-kept.kept.items c.in_ok-from_start.from_start.reached.found c.in_ok-to_end.to_end.reached.found l r c.in_ok-kept.ensures)
