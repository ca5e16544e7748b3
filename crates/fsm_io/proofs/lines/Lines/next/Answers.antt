use Rattle.fsm_io.proofs.Streams.{told_more}
use Rattle.fsm_io.proofs.lines.Lines.next.Goals as goal

pub returns-clause-told : goal.returns-clause-told
returns-clause-told g c = λ left budget lines before. told_more left _ _ budget _ _ _ lines before c.advance.ensures.next
