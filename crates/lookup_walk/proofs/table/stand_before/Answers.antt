use Rattle.std.proofs.Common.{is_lt, arith, sym, ap, ◌∙◌}
use Rattle.std.proofs.lemmas.Bool.{OnTrue_from}
use Rattle.lookup_walk.proofs.Rows.{no_move}
use Rattle.lookup_walk.proofs.Spots.{all_before}
use Rattle.lookup_walk.proofs.table.stand_before.Goals as goal

pub returns-in-Some : goal.returns-in-Some
returns-in-Some c = OnTrue_from _ _ (λ low.
    all_before c.args.spot c.args.moves.now c.requires.sorted c.args.place c.in-Some.last no_move (omega arith) c.requires.within (sym (ap is_lt c.cmp.ensures) ∙ sym c.is_lt.ensures ∙ low))
