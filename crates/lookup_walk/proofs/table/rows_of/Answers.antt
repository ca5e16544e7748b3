use Rattle.std.proofs.Common.{◌+◌, ℕ, ◌∷◌, [], sym, subst, ap, ◌∙◌, length-append}
use Rattle.lookup_walk.specs.Sorted.{IsRow}
use Rattle.lookup_walk.proofs.Rows.{AreRows-push}
use Rattle.lookup_walk.proofs.table.rows_of.Goals as goal

pub states-preserved : goal.states-preserved
states-preserved c =
    let here = subst (λ (n : ℕ). IsRow c.args.moves.now n c.row_of-row.result) (sym c.states.invariant.count) c.row_of-row.ensures in
    record {
      count = rw c.in_ok-push.ensures.items (length-append c.states.rows.items (c.row_of-row.result ∷ []) ∙ ap (λ n. n + 1) c.states.invariant.count);
      rows = rw c.in_ok-push.ensures.items (AreRows-push c.args.moves.now c.states.rows.items c.row_of-row.result c.states.invariant.rows here);
    }
