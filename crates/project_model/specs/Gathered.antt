-- Symbols that are gathered in a table as far as one more than a project may have.
use Rattle.std.specs.Prelude.{ℕ, ◌+◌, List, take}
use Rattle.std.specs.List.{flat_map}
use Rattle.project_meaning.specs.Leaves.{resolved, symbols_in}
use Rattle.project_meaning.specs.Projects.{Written, with_texts}
use Rattle.project_sources.specs.Limits.{most_symbols}

-- the table with these texts, but no more texts than that
abbrev pub gathered : List (List ℕ) → List (List ℕ) → List (List ℕ)
gathered table texts = take (most_symbols + 1) (with_texts table texts)

-- the symbols of definitions where these names are defined
abbrev pub symbols_beside : List (List ℕ) → Written → List (List ℕ)
symbols_beside names w = symbols_in (resolved names w.body)

abbrev pub symbols_of_all : List (List ℕ) → List Written → List (List ℕ)
symbols_of_all names written = flat_map (symbols_beside names) written
