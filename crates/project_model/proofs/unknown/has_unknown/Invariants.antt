use Rattle.std.proofs.Common.{ℕ, List, take}
use Rattle.std.specs.List.{Contains}
use Rattle.project_model.proofs.unknown.has_unknown.Given as goal

-- those so far are among the names
abbrev pub invariant-required : goal.invariant-required
invariant-required l = (name : List ℕ) → Contains (take l.name-index l.required) name → (Contains l.names name → ⊥) → ⊥
