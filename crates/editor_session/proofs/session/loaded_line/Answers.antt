use Rattle.std.proofs.Common.{◌∙◌}
use Rattle.editor_session.proofs.Replies.{loaded_bytes}
use Rattle.editor_session.proofs.session.loaded_line.Goals as goal

pub returns : goal.returns
returns c loaded stands = loaded_bytes c.accepted.result loaded _ _ _ c.accepted.ensures (c.number.ensures.number ∙ stands.number) c.deref.ensures.value (c.in_ok-names.ensures loaded stands)
