use Rattle.std.proofs.Common.{◌≡◌, false, is_lt, sym, ap, ◌∙◌}
use Rattle.std.proofs.lemmas.Bool.{OnTrue_from}
use Rattle.lookup_walk.proofs.Rows.{no_move}
use Rattle.lookup_walk.proofs.Spots.{all_behind, not_before}
use Rattle.lookup_walk.proofs.table.stand_from.Goals as goal

pub returns-else-place-moves : goal.returns-else-place-moves
returns-else-place-moves c = OnTrue_from _ _ (λ high.
    let asked : is_lt c.cmp.result ≡ false = not_before c.cmp.result (sym c.is_ge.ensures ∙ high) in
    all_behind c.args.spot c.args.moves.now c.requires c.args.place no_move (sym (ap is_lt c.cmp.ensures) ∙ asked))
