use Rattle.std.proofs.Common.{◌≡◌, ◌++◌, drop, map}
use Rattle.std.specs.List.{flat_map}
use Rattle.name_resolution.specs.Symbols.{terms_behind}
use Rattle.name_resolution.specs.Plain.{form_of}
use Rattle.project_meaning.specs.Leaves.{expressions_in}
use Rattle.name_resolution.proofs.listing.add_expressions.Given as goal

-- what was found, and what is in the other items
abbrev pub invariant-entries : goal.invariant-entries
invariant-entries g l = terms_behind l.found.items ++ flat_map expressions_in (map (λ e. form_of e.form) (drop l.entry-index l.entries)) ≡ terms_behind l.fn.found.items ++ flat_map expressions_in (map (λ e. form_of e.form) l.entries)
