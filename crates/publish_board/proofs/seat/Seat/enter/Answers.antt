use Rattle.std.proofs.Common.{◌∙◌, ◌<◌, ap, sym, [], length, subst, rules}
use Rattle.std.proofs.lemmas.List.{append-nil}
use mathlib.Core.List.{IsPrefix}
use Rattle.publish_board.proofs.Events.{is_enter}
use Rattle.publish_board.proofs.seat.Seat.enter.Goals as goal

pub returns-then-begins-clause-event : goal.returns-then-begins-clause-event
returns-then-begins-clause-event g c =
    let old = ap (λ s. s.values) c.self.view_is in
    let begins : IsPrefix c.args.self.now.values c.in-Some.page.values = search rules in
    is_enter _ _ (subst (λ xs. 0 < length xs) old c.self.invariant.1) begins

pub returns-else-begins-clause-event : goal.returns-else-begins-clause-event
returns-else-begins-clause-event g c =
    let old = ap (λ s. s.values) c.self.view_is in
    is_enter _ _ (subst (λ xs. 0 < length xs) old c.self.invariant.1) ([], append-nil c.args.self.now.values ∙ sym old)

pub returns-in_default-clause-event : goal.returns-in_default-clause-event
returns-in_default-clause-event g c =
    let old = ap (λ s. s.values) c.self.view_is in
    is_enter _ _ (subst (λ xs. 0 < length xs) old c.self.invariant.1) ([], append-nil c.args.self.now.values ∙ sym old)

pub returns-else-begins-clause-values : goal.returns-else-begins-clause-values
returns-else-begins-clause-values g c = ([], append-nil c.args.self.now.values ∙ ap (λ s. s.values) (sym c.self.view_is))
