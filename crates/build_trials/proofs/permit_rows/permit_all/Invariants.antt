use Rattle.std.proofs.Common.{◌≤◌, drop, length}
use Rattle.build_trials.proofs.permit_rows.permit_all.Given as goal

-- there is room for a permit of each that is left
abbrev pub invariant-issues : goal.invariant-issues
invariant-issues g l = length (drop l.issue-index l.wanted) ≤ g.F.Forge.room l.forge
