use Rattle.std.proofs.Common.{ℕ, List, Some, take}
use Rattle.interlinear.specs.Glosses.{Entry}
use Rattle.interlinear.specs.Replies.{AreCells}
use Rattle.project_meaning.specs.Projects.{Project}
use Rattle.project_store.specs.Networks.{Shows}
use Rattle.project_store.proofs.glosses.cells_of.Given as goal

-- the cells of the words so far
abbrev pub invariant-words : goal.invariant-words
invariant-words l =
    (project : Project) (name : List ℕ) (glosses : List Entry) → Shows (record { alphabet = l.alphabet; name = name; net = Some l.net; glosses = glosses }) project
    → AreCells project l.table name (take l.word-index l.words) l.cells.items
