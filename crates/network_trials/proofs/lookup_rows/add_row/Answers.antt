use Rattle.std.proofs.Common.{◌≡◌, true, refl, rules}
use Rattle.network_trials.proofs.Over.{over_push}
use Rattle.network_trials.proofs.lookup_rows.add_row.Goals as goal

pub returns : goal.returns
returns c =
    let upper : c.is_side.result ≡ true = search rules in
    let lower : c.is_side-else-not-is_side.result ≡ true = search rules in
    λ over. over_push c.args.alphabet.now _ _ _ (record { up = c.args.row.1; low = c.args.row.2 }) c.in_ok-add_edge.ensures.ok refl (c.is_side.ensures upper) (c.is_side-else-not-is_side.ensures lower) over
