use Rattle.std.proofs.Common.{◌≡◌, ◌++◌, ◌∷◌, [], ◌<◌, ◌∙◌, ap, length, subst, sym}
use Rattle.std.specs.Arc.{arc_value}
use Rattle.publish_board.specs.Boards.{IsPublish}
use Rattle.publish_board.proofs.Events.{is_publish}
use Rattle.publish_board.proofs.editor.EditorOf+V+Page+V+Law.release.Goals as goal

pub returns-clause-event : goal.returns-clause-event
returns-clause-event g c =
    let old = c.upto.ensures.values ∙ c.self.view_is in
    let grown = ap (λ p. p.values) (c.new.ensures ∙ c.in-Some.ensures) in
    let is : c.new.result.values ≡ c.args.self.now.values ++ arc_value c.args.next ∷ [] = grown ∙ (ap (λ p. p.values ++ c.deref-2.result.now ∷ []) old ∙ ap (λ x. c.args.self.now.values ++ x ∷ []) c.deref-2.ensures) in
    subst (IsPublish c.args.self.now.values (arc_value c.args.next)) (sym is) (is_publish _ _ (subst (λ p. 0 < length p.values) c.self.view_is c.upto.ensures.filled))
