use Rattle.std.proofs.Common.{ℕ, List, subst}
use Rattle.edit_script.specs.Commands.{IsWhyNoCommand}
use Rattle.edit_script.specs.declared.errors.CommandError.{CommandError}
use Rattle.editor_session.specs.Reading.{of_command}
use Rattle.editor_session.proofs.Requests.{followed_none}
use Rattle.editor_session.proofs.Shortness.{short_command}
use Rattle.editor_session.proofs.request.followed.Goals as goal

pub returns-in-Ok-clause-followed : goal.returns-in-Ok-clause-followed
returns-in-Ok-clause-followed g c left0 budget heard h =
    let o = c.obeyed.ensures.obeyed left0 budget heard h in
    record { more = o.more; read = o.read; follows = of_command c.in-Ok.command (rw c.text.ensures at c.in-Ok.ensures) o.obeys }

pub returns-in-Ok-clause-short : goal.returns-in-Ok-clause-short
returns-in-Ok-clause-short g c = c.obeyed.ensures.short (short_command _ c.in-Ok.command c.in-Ok.ensures)

pub returns-in-Err-Bad-clause-followed : goal.returns-in-Err-Bad-clause-followed
returns-in-Err-Bad-clause-followed g c left0 budget heard h =
    followed_none left0 _ budget _ heard _ h
    (subst (λ (e : CommandError). IsWhyNoCommand c.args.lines.now.text e) c.in-Err-Bad.field-0-is (subst (λ (l : List ℕ). IsWhyNoCommand l c.in-Err-Bad.field-0) c.text.ensures c.in-Err-Bad.ensures))
