use Rattle.std.proofs.Common.{◌≡◌, length, All}
use Rattle.left_right.specs.Sides.{view}
use Rattle.publish_board.specs.Boards.{seated}
use Rattle.publish_board.proofs.board.seats_of.Given as goal

abbrev pub invariant-seats : goal.invariant-seats
invariant-seats g l =
    (view l.writer.desk.place ≡ view l.initial.writer.desk.place) × (l.writer.desk.shown ≡ l.initial.writer.desk.shown) × (length l.all.items ≡ l.counter) × All (λ seat. seat ≡ seated l.page.board l.page.values 0) l.all.items
