use Rattle.publish_board.proofs.Knowing.{keeps_new}
use Rattle.publish_board.proofs.steps.new_reader.Goals as goal

pub reader-requires : goal.reader-requires
reader-requires g c page views h = keeps_new page.board views h
