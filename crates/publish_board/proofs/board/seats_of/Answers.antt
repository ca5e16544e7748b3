use Rattle.std.proofs.Common.{◌≡◌, ◌∙◌, ap, sym, subst, ◌∷◌, [], length, length-append, All, arith}
use Rattle.std.proofs.lemmas.List.Elements.{All-push}
use Rattle.publish_board.specs.Boards.{Seated, seated}
use Rattle.publish_board.proofs.board.seats_of.Goals as goal

pub seats-preserved : goal.seats-preserved
seats-preserved g c =
    let writer = c.reader_of-reader.ensures.writer in
    let so_far = c.seats.invariant in
    let pushed = c.in_ok-push.ensures.items in
    let same : Seated g.row.V.Denot → Type 0 = λ s. s ≡ seated c.args.page.now.board c.args.page.now.values 0 in
    let new = c.of-seat.ensures ∙ ap (λ p. seated p.board p.values 0) c.again.ensures in (
      writer.0 ∙ so_far.0,
      writer.1 ∙ so_far.1,
      omega (arith, ap length pushed, length-append c.seats.all.items (c.of-seat.result ∷ []), so_far.2),
      subst (All same) (sym pushed) (All-push same c.seats.all.items c.of-seat.result so_far.3 new),
    )
