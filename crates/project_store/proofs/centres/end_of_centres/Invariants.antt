use Rattle.std.proofs.Common.{◌≡◌, ◌≤◌, ◌<◌, ℕ, [], Some, slice_get}
use Rattle.project_store.specs.Centres.{body_centres}
use Rattle.project_definitions.specs.Plain.{body_of}
use Rattle.project_definitions.specs.declared.definition.Definition.{Definition}
use Rattle.project_store.proofs.centres.end_of_centres.Given as goal

-- no definition from the end so far on has a centre
abbrev pub invariant-order : goal.invariant-order
invariant-order l = record {
  within : l.end ≤ l.index;
  behind : (i place : ℕ) (d : Definition) → l.end ≤ i → i < l.index → slice_get l.order i ≡ Some place → slice_get l.definitions place ≡ Some d → body_centres (body_of d.body) ≡ [];
}
