use Rattle.project_versions.proofs.Looking.{reply_asked, reply_no_look, reply_unread}
use Rattle.project_versions.proofs.Shortness.{short_look}
use Rattle.project_versions.proofs.looks.VersionAnswers.answer.Goals as goal

pub reply_to_look-requires : goal.reply_to_look-requires
reply_to_look-requires c = short_look c.args.line.now c.in-Ok.look c.in-Ok.ensures

pub returns-in-Ok : goal.returns-in-Ok
returns-in-Ok c = reply_asked c.args.self.now c.args.line.now c.in-Ok.look c.in-Ok.ensures _ c.reply_to_look.ensures

pub returns-in-Err-Bad : goal.returns-in-Err-Bad
returns-in-Err-Bad c = reply_no_look c.args.self.now c.args.line.now (rw c.in-Err-Bad.field-0-is at c.in-Err-Bad.ensures)

pub returns-in-Err-Memory : goal.returns-in-Err-Memory
returns-in-Err-Memory c =
    let why = rw c.in-Err-Memory.field-0-is at c.in-Err-Memory.ensures in
    reply_unread c.args.self.now c.args.line.now why.0 why.1 why.2
