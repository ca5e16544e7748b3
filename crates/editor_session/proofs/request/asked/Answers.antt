use Rattle.std.proofs.Common.{refl}
use Rattle.editor_session.proofs.Requests.{asked_abandon, asked_begin, asked_commit, asked_down, asked_drop, asked_end, asked_put, asked_splice, asked_up}
use Rattle.editor_session.proofs.request.asked.Goals as goal

pub returns-in-Put-clause-asked : goal.returns-in-Put-clause-asked
returns-in-Put-clause-asked c more len kept = asked_put c.args.command more len c.in-Put.file _ c.args.bytes.items _ c.in-Put.is kept refl

pub returns-in-Splice-clause-asked : goal.returns-in-Splice-clause-asked
returns-in-Splice-clause-asked c more len kept = asked_splice c.args.command more len c.in-Splice.file c.in-Splice.from c.in-Splice.count _ c.args.bytes.items _ c.in-Splice.is kept refl

pub returns-in-Drop-clause-asked : goal.returns-in-Drop-clause-asked
returns-in-Drop-clause-asked c more len kept = asked_drop c.args.command more len c.in-Drop.file _ c.in-Drop.is refl

pub returns-in-Up-clause-asked : goal.returns-in-Up-clause-asked
returns-in-Up-clause-asked c more len kept = asked_up c.args.command more len c.in-Up.net c.in-Up.word c.in-Up.is

pub returns-in-Down-clause-asked : goal.returns-in-Down-clause-asked
returns-in-Down-clause-asked c more len kept = asked_down c.args.command more len c.in-Down.net c.in-Down.word c.in-Down.is

pub returns-in-End-clause-asked : goal.returns-in-End-clause-asked
returns-in-End-clause-asked c more len kept = asked_end c.args.command more len c.in-End.is

pub returns-in-Begin-clause-asked : goal.returns-in-Begin-clause-asked
returns-in-Begin-clause-asked c more len kept = asked_begin c.args.command more len c.in-Begin.is

pub returns-in-Commit-clause-asked : goal.returns-in-Commit-clause-asked
returns-in-Commit-clause-asked c more len kept = asked_commit c.args.command more len c.in-Commit.is

pub returns-in-Abandon-clause-asked : goal.returns-in-Abandon-clause-asked
returns-in-Abandon-clause-asked c more len kept = asked_abandon c.args.command more len c.in-Abandon.is
