use Rattle.std.proofs.Common.{◌≡◌, ◌<◌, ◌↔◌, ℕ, Some, true}
use Rattle.std.specs.List.{slice_get}
use Rattle.lexc_compile.proofs.chains.ends_alone.Given as goal

abbrev pub invariant-loop-state : goal.invariant-loop-state
invariant-loop-state l = (p : ℕ) → p < l.state → (slice_get l.finals p ≡ Some true) ↔ (p ≡ l.end)
