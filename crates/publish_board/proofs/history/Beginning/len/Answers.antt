use Rattle.std.proofs.Common.{subst}
use Rattle.publish_board.specs.Histories.{IsLegal}
use Rattle.publish_board.proofs.Beginnings.{numbered_of}
use Rattle.publish_board.proofs.history.Beginning.len.Goals as goal

pub returns-clause-numbered : goal.returns-clause-numbered
returns-clause-numbered g c = rw (← c.self.view_is) (numbered_of _ 1 _ (subst (IsLegal g.V.Release.number_of) c.self.invariant.1 c.self.invariant.2))
