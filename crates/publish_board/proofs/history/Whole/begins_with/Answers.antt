use Rattle.std.proofs.Common.{subst, ap, List, ◌∙◌, ◌++◌, ◌∷◌, []}
use mathlib.Core.List.{IsPrefix}
use Rattle.publish_board.specs.declared.law.Entry.TheVariants.{Closed}
use Rattle.publish_board.specs.Histories.{values_of, entries}
use Rattle.publish_board.proofs.Beginnings.{begins_closed}
use Rattle.publish_board.proofs.history.Whole.begins_with.Goals as goal

pub returns : goal.returns
returns g c =
    let a = c.self.inside.seen.log in
    let b = c.seen.inside.seen.log in
    let both = c.learn.new.self.log in
    let whole : IsPrefix (entries (values_of a) ++ Closed ∷ []) both = subst (λ (l : List _). IsPrefix l both) (ap (λ s. s.log) c.again-both.ensures ∙ c.self.invariant) c.learn.ensures.2 in
    let part : IsPrefix (entries (values_of b)) both = subst (λ (l : List _). IsPrefix l both) c.seen.invariant.1 c.learn.ensures.3 in
    rw (← c.self.view_is, ← c.seen.view_is) (begins_closed (values_of b) (values_of a) both part whole)
