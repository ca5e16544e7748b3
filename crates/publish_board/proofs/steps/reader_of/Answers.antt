use Rattle.publish_board.proofs.Knowing.{keeps_tell, keeps_learn}
use Rattle.publish_board.proofs.steps.reader_of.Goals as goal

pub tell-requires : goal.tell-requires
tell-requires g c page views h at = keeps_tell _ _ page.board views h at

pub learn-requires-clause-rule : goal.learn-requires-clause-rule
learn-requires-clause-rule g c page views h at apart there = keeps_learn _ _ _ page.board views h apart there
