use Rattle.publish_board.proofs.Knowing.{keeps_find}
use Rattle.publish_board.proofs.steps.look.Goals as goal

pub enter_as-requires : goal.enter_as-requires
enter_as-requires g c page views h at = keeps_find _ _ page.board views h at
