-- Definitions of a plan, by what they stand for.
use Rattle.std.proofs.Common.{◌≡◌, ℕ, List, map, sym, ap, ◌∙◌}
use Rattle.std.proofs.lemmas.Simd.{map-map}
use Rattle.project_meaning.specs.Projects.{Written}
use Rattle.project_definitions.specs.Entries.{Entry, entry_of, entry_in}
use Rattle.project_definitions.specs.declared.definition.Definition.{Definition}

module _ (names table : List (List ℕ)) where
  -- the names of the definitions are those that were said
  pub names_said : (definitions : List Definition) (written : List Written) → map entry_of definitions ≡ map (entry_in names table) written
      → map (λ (d : Definition). d.name) definitions ≡ map (λ (w : Written). w.name) written
  names_said definitions written are =
      sym (map-map (λ (e : Entry). e.name) entry_of definitions) ∙ ap (map (λ (e : Entry). e.name)) are ∙ map-map (λ (e : Entry). e.name) (entry_in names table) written
