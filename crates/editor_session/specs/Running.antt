-- What was read and written so far while the commands of an input are answered.
use Rattle.std.specs.Prelude.{◌≡◌, ◌++◌, ℕ, List, Option}
use Rattle.std.specs.Io.KnownBytes.{Appends}
use Rattle.fsm_io.specs.Reading.{LinesView}
use Rattle.project_meaning.specs.Projects.{Defines}
use Rattle.project_sources.specs.Edits.{Version}
use Rattle.project_sources.specs.Faults.{rows}
use Rattle.project_sources.specs.Laws.{all_readers}
use Rattle.reply_text.specs.Projects.{accepted_line}
use Rattle.editor_meaning.specs.Batches.{Batch, no_batch}
use Rattle.editor_meaning.specs.Orders.{Order}
use Rattle.editor_meaning.specs.Editing.{AreNames, AreReplies}
use Rattle.editor_session.specs.Keeping.{kept_batch}
use Rattle.editor_session.specs.Reading.{HasHeard, Say}

-- the bytes are replies to these orders, which made these versions, the last of which is the present one, and left this batch; whatever orders follow
abbrev pub AreRepliesSofar : Version → List Order → List ℕ → List Version → Version → Batch → Type 0
AreRepliesSofar loaded orders bytes made present batch =
    (later : List Order) (rest : List ℕ) (more : List Version) → AreReplies all_readers rows present batch later rest more → AreReplies all_readers rows loaded no_batch (orders ++ later) (bytes ++ rest) (made ++ more)

-- every command so far has its reply, and these are written behind the first line; they made these versions, and left a batch of which this is kept
pub record Sofar (loaded present : Version) (made : List Version) (kept : Batch) (budget : ℕ) (left0 left held0 held : Option (List ℕ)) (reader : LinesView) : Type 0 where
  pub lines : List (List ℕ)
  pub orders : List Order
  pub names : List (List ℕ)
  pub replies : List ℕ
  pub batch : Batch
  pub heard : HasHeard left0 left budget reader lines
  pub says : Say reader.ended lines orders
  pub are_names : AreNames (Defines loaded.project) names
  pub are_replies : AreRepliesSofar loaded orders replies made present batch
  pub kept_is : kept ≡ kept_batch batch
  pub appended : Appends held0 held (accepted_line loaded.number names ++ replies)

-- the first line of an editor's output: that this version is loaded, with all its names
abbrev pub IsLoadedLine : Version → List ℕ → Type 0
IsLoadedLine loaded bytes = (names : List (List ℕ)) × AreNames (Defines loaded.project) names × (bytes ≡ accepted_line loaded.number names)
