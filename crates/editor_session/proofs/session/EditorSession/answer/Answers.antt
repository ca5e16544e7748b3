use Rattle.std.proofs.Common.{[]}
use Rattle.editor_session.proofs.Publishing.{stands_alone}
use Rattle.editor_session.proofs.Runs.{not_started, started}
use Rattle.editor_session.proofs.session.EditorSession.answer.Goals as goal

pub returns-in-Ok-clause-edited : goal.returns-in-Ok-clause-edited
returns-in-Ok-clause-edited g c loaded published line =
    c.answer_all.ensures.edited loaded loaded [] _ _ _ (stands_alone _ loaded _ published) published (started loaded line.0 _ _ _ _ _ _ _ _ c.requires.start c.requires.batch line.1 line.2 c.in-Ok.ensures.bytes)

pub returns-in-Err-clause-edited : goal.returns-in-Err-clause-edited
returns-in-Err-clause-edited g c loaded published line = ([], published.standing, not_started loaded line.0 _ _ _ _ _ _ _ c.requires.start line.1 line.2 c.in-Err.ensures.bytes)
