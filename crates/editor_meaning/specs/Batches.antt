-- Batches: edits that are held one after another, to be accepted or refused as one.
use Rattle.std.specs.Prelude.{ℕ, List}
use Rattle.project_sources.specs.Edits.{Edit}

-- the most edits that a batch holds
abbrev pub most_held : ℕ
most_held = 128

pub data Batch : Type 0 where
  no_batch : Batch
  -- a batch was begun, and holds these edits in their order
  open_with : List Edit → Batch
  -- a batch was begun, and can't be accepted any more
  lost : Batch

-- the batch behind a line in no form
abbrev pub spoilt : Batch → Batch
spoilt no_batch = no_batch
spoilt (open_with held) = lost
spoilt lost = lost
