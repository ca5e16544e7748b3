use Rattle.std.proofs.Common.{List, ◌∷◌}
use Rattle.std.specs.Arc.{arc_value}
use Rattle.project_sources.specs.Edits.{Version}
use Rattle.project_versions.specs.Versions.{Stands}
use Rattle.editor_session.specs.Publishing.{ArePublished, AreStanding}
use Rattle.editor_session.proofs.Runs.{ended, turned}
use Rattle.editor_session.proofs.session.EditorSession.turn.Goals as goal

pub returns-in-Asks-clause-turns : goal.returns-in-Asks-clause-turns
returns-in-Asks-clause-turns g c loaded present made budget left0 held0 stands published s =
    let (next, stand, shown, replies) = c.reply_to-reply.ensures.replies present (loaded ∷ made) stands published in
    let version = arc_value c.reply_to-reply.new.version in
    let values = c.reply_to-reply.new.editor.values in
    turned (λ (v : Version). Stands version v) (λ (vs : List Version). ArePublished values vs version) (λ (vs : List Version). AreStanding values vs) loaded present made _ budget left0 _ _ held0 _ _ _ _ s c.in-Asks.request
    (c.in-Asks.ensures.next left0 budget s.lines s.heard) _ next _ replies stand shown shown.standing _ _ c.ending_of.ensures c.write.ensures.written

pub returns-in-Ends-clause-turns : goal.returns-in-Ends-clause-turns
returns-in-Ends-clause-turns g c loaded present made budget left0 held0 stands published s =
    (made, published.standing, ended loaded present made _ budget left0 _ _ held0 _ _ _ s c.in-Ends.ending (c.in-Ends.ensures.next left0 budget s.lines s.heard))
