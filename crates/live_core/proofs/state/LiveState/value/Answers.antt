use Rattle.live_core.proofs.Runs.{unwrap_or-last}
use Rattle.live_core.proofs.state.LiveState.value.Goals as goal

pub returns : goal.returns
returns g c = rw (c.unwrap_or.ensures, c.copied.ensures, c.last.ensures.value, c.deref.ensures.value, ← c.self.view_is) (unwrap_or-last c.self.inside.first c.self.inside.later.items)
