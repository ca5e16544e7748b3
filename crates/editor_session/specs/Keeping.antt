-- What a session keeps of the edits and of the batch in its input: no more of a content than makes an edit too long.
use Rattle.std.specs.Prelude.{◌+◌, ℕ, map, take}
use Rattle.project_edits.specs.Applied.{edits_of}
use Rattle.project_sources.specs.Edits.{Edit, drops, put, splice}
use Rattle.project_sources.specs.Limits.{most_bytes}
use Rattle.editor_meaning.specs.Batches.{Batch, lost, no_batch, open_with}
use Rattle.editor_session.specs.declared.batches.Batch.{Batch as BatchOf}
use Rattle.editor_session.specs.declared.batches.Batch.TheVariants as batches

-- the most bytes that are kept of the lines that follow a command: one more than a file may have
unfoldable pub most_kept : ℕ
most_kept = most_bytes + 1

-- the edit, as it is kept
abbrev pub kept_of : Edit → Edit
kept_of (put file bytes) = put file (take most_kept bytes)
kept_of (splice file from count bytes) = splice file from count (take most_kept bytes)
kept_of (drops file) = drops file

-- the batch, as it is kept
abbrev pub kept_batch : Batch → Batch
kept_batch no_batch = no_batch
kept_batch (open_with held) = open_with (map kept_of held)
kept_batch lost = lost

-- the batch that a value stands for
abbrev pub batch_of : BatchOf → Batch
batch_of batches.NoBatch = no_batch
batch_of (batches.Open edits) = open_with (edits_of edits.items)
batch_of batches.Lost = lost
