use Rattle.std.proofs.Common.{◌≡◌, ℕ, List, length, take}
use Rattle.project_sources.specs.Sources.{Said}
use Rattle.project_definitions.specs.Forms.{AreDefined}
use Rattle.project_definitions.proofs.Forming.{AreTold}
use Rattle.project_definitions.proofs.forms.forms_of.Given as goal

-- the forms so far are told
abbrev pub invariant-places : goal.invariant-places
invariant-places l = record {
  count : length l.forms.items ≡ length l.definitions;
  told : (said : Said) (table : List (List ℕ)) → AreDefined said table l.definitions → AreTold said (take l.place-index l.order) l.forms.items;
}
