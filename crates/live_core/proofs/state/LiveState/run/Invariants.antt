use Rattle.std.proofs.Common.{◌≡◌, ◌≤◌, ◌+◌, ◌++◌, drop, length, vec_capacity}
use Rattle.live_core.specs.Machine.{after_all, outcomes}
use Rattle.live_core.proofs.state.LiveState.run.Given as goal

-- what is left to do leads to the same end, and there is room for its outcomes
abbrev pub invariant-events : goal.invariant-events
invariant-events g l =
    let left = drop l.event-index l.events in
    (after_all l.self left ≡ after_all l.fn.self l.events)
    × (l.outcomes.items ++ outcomes l.self left ≡ outcomes l.fn.self l.events)
    × (length l.outcomes.items + length left ≤ vec_capacity l.outcomes)
