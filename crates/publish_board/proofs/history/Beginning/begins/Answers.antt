use Rattle.std.proofs.Common.{subst, ap, List}
use mathlib.Core.List.{IsPrefix}
use Rattle.publish_board.proofs.Beginnings.{precedes_by}
use Rattle.publish_board.proofs.history.Beginning.begins.Goals as goal

pub returns : goal.returns
returns g c =
    let a = c.self.inside in
    let b = c.other.inside in
    let both = c.learn.new.self.log in
    let this : IsPrefix a.seen.log both = subst (λ (l : List _). IsPrefix l both) (ap (λ s. s.log) c.again-both.ensures) c.learn.ensures.2 in
    rw (← c.self.view_is, ← c.other.view_is) (precedes_by a.seen.log b.seen.log both a.count b.count c.self.invariant.0 c.other.invariant.0 c.self.invariant.1 c.other.invariant.1 this c.learn.ensures.3)
