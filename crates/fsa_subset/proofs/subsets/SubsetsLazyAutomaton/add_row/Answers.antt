use Rattle.std.proofs.Common.{◌<◌, subst, sym}
use Rattle.std.proofs.lemmas.Result.{on_ok_weaker}
use Rattle.fsa_subset.proofs.Settling.{moves_within, row_of_sets}
use Rattle.fsa_subset.proofs.subsets.SubsetsLazyAutomaton.add_row.Goals as goal

pub add_sets-requires-clause-moves : goal.add_sets-requires-clause-moves
add_sets-requires-clause-moves c =
    let sets = c.self.inside in
    moves_within sets.rows c.args.set.now c.in_ok-moves.moves sets.reached.bound c.in_ok-moves.ensures (λ e h. subst (λ n. e.to < n) (sym c.self.invariant.1) (c.self.invariant.0 e h))

pub returns-clause-row : goal.returns-clause-row
returns-clause-row c =
    let sets = c.self.inside in
    on_ok_weaker c.add_sets.result
    (row_of_sets c.args.self.now sets.rows sets.finals.now sets.letters sets.reached.bound c.in_ok-moves.moves c.args.set.now c.args.found.now c.add_sets.new.found c.self.view_is c.self.invariant.1 c.in_ok-moves.ensures)
    c.add_sets.ensures.row
