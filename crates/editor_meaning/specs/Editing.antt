-- What an editor's output gets for the orders in its input, over the versions that its changes make: an edit outside a batch, or all edits of one.
use Rattle.std.specs.Prelude.{◌≡◌, ◌<◌, ◌≤◌, ◌↔◌, ◌++◌, ℕ, Bool, List, [], ◌∷◌, length, Contains, Option, None, Some, Ok, Err, codes}
use Rattle.std.specs.List.{flat_map}
use Rattle.std.specs.Option.{option_to_list, unwrap_or}
use Rattle.fsm_base.specs.Normal.{nfc_of}
use Rattle.fsm_io.specs.Folders.{Files}
use Rattle.word_relations.specs.Answers.{IsInOrder}
use Rattle.regex_ast.specs.declared.fault.Fault.{Fault}
use Rattle.lookup_answers.specs.declared.direction.Direction.TheVariants.{Up, Down}
use Rattle.project_meaning.specs.Projects.{Defines}
use Rattle.project_meaning.specs.Touched.{Touched}
use Rattle.project_sources.specs.Edits.{Changes, Edit, Version, drops, put, splice}
use Rattle.project_sources.specs.Faults.{Row, SourcesSay}
use Rattle.project_sources.specs.Sources.{Readers}
use Rattle.reply_meaning.specs.Replies.{RepliesToWord, line_of}
use Rattle.reply_meaning.specs.Transcripts.{first_version}
use Rattle.reply_text.specs.Batches.{batch_line}
use Rattle.reply_text.specs.Projects.{accepted_line, refused_line}
use Rattle.reply_text.specs.declared.batches.BatchReply.TheVariants.{Begun, Held, Open, NoBatch, Dropped, Lost, Full}
use Rattle.edit_script.specs.declared.commands.EditCommand.TheVariants as commands
use Rattle.editor_meaning.specs.Batches.{Batch, lost, most_held, no_batch, open_with, spoilt}
use Rattle.editor_meaning.specs.Orders.{AreOrders, Order, bad, cut, whole}

-- the most changes that are accepted
abbrev pub most_edits : ℕ
most_edits = 10000

-- the names of a set by their bytes, each once
pub record AreNames (T : List ℕ → Type 0) (names : List (List ℕ)) : Type 0 where
  pub all : (name : List ℕ) → T name ↔ Contains names name
  pub in_order : IsInOrder names

-- the content that lines are, each with its newline
abbrev pub content_of : List (List ℕ) → List ℕ
content_of lines = flat_map line_of lines

-- the reply to a change at the present version, and the version that it makes, if it makes one, by the rows of faults that are told. The first version has
-- number 1, so a version has a number above `most_edits` where as many changes were accepted
pub data RepliesToChange (readers : Readers) (told : List Row) (present : Version) (change : List Edit) (reply : List ℕ) (new : Option Version) : Type 0 where
  full : most_edits < present.number → reply ≡ line_of (codes "full") → new ≡ None → RepliesToChange readers told present change reply new
  accepted : (next : Version) (names : List (List ℕ)) → present.number ≤ most_edits → Changes readers told present change (Ok next) → AreNames (Touched present.project next.project) names
      → reply ≡ accepted_line next.number names → new ≡ Some next → RepliesToChange readers told present change reply new
  refused : (found : Fault) → present.number ≤ most_edits → Changes readers told present change (Err found) → reply ≡ refused_line found → new ≡ None → RepliesToChange readers told present change reply new
  -- want of memory is answered for the change alone
  no_memory : reply ≡ line_of (codes "memory") → new ≡ None → RepliesToChange readers told present change reply new

-- the reply to an edit where a batch holds others, and the batch then
pub data Holds (held : List Edit) (edit : Edit) (reply : List ℕ) (next : Batch) : Type 0 where
  fits : length held < most_held → reply ≡ batch_line Held → next ≡ open_with (held ++ edit ∷ []) → Holds held edit reply next
  overfull : most_held ≤ length held → reply ≡ batch_line Full → next ≡ lost → Holds held edit reply next
  -- the edit couldn't be kept
  unkept : length held < most_held → reply ≡ line_of (codes "memory") → next ≡ lost → Holds held edit reply next

-- the reply to an edit, the version that it makes, if it makes one, and the batch then. Outside a batch it is a change of its own
abbrev pub RepliesToEdit : Readers → List Row → Version → Batch → Edit → List ℕ → Option Version → Batch → Type 0
RepliesToEdit readers told present no_batch edit reply new next = RepliesToChange readers told present (edit ∷ []) reply new × (next ≡ no_batch)
RepliesToEdit readers told present (open_with held) edit reply new next = Holds held edit reply next × (new ≡ None)
RepliesToEdit readers told present lost edit reply new next = (reply ≡ batch_line Lost) × (new ≡ None) × (next ≡ lost)

-- the reply to `begin`
abbrev pub RepliesToBegin : Batch → List ℕ → Batch → Type 0
RepliesToBegin no_batch reply next = (reply ≡ batch_line Begun) × (next ≡ open_with [])
RepliesToBegin (open_with held) reply next = (reply ≡ batch_line Open) × (next ≡ open_with held)
RepliesToBegin lost reply next = (reply ≡ batch_line Open) × (next ≡ lost)

-- the reply to `commit`. The edits of an open batch are one change
abbrev pub RepliesToCommit : Readers → List Row → Version → Batch → List ℕ → Option Version → Batch → Type 0
RepliesToCommit readers told present no_batch reply new next = (reply ≡ batch_line NoBatch) × (new ≡ None) × (next ≡ no_batch)
RepliesToCommit readers told present (open_with held) reply new next = RepliesToChange readers told present held reply new × (next ≡ no_batch)
RepliesToCommit readers told present lost reply new next = (reply ≡ batch_line Lost) × (new ≡ None) × (next ≡ no_batch)

-- the reply to `abandon`
abbrev pub RepliesToAbandon : Batch → List ℕ → Batch → Type 0
RepliesToAbandon no_batch reply next = (reply ≡ batch_line NoBatch) × (next ≡ no_batch)
RepliesToAbandon (open_with held) reply next = (reply ≡ batch_line Dropped) × (next ≡ no_batch)
RepliesToAbandon lost reply next = (reply ≡ batch_line Dropped) × (next ≡ no_batch)

-- the reply to an order, the version that it makes, if it makes one, and the batch then. A look-up is answered at the present version, also where there is a batch
abbrev pub RepliesToOrder : Readers → List Row → Version → Batch → Order → List ℕ → Option Version → Batch → Type 0
RepliesToOrder readers told present batch bad reply new next = (reply ≡ line_of (codes "bad")) × (new ≡ None) × (next ≡ spoilt batch)
RepliesToOrder readers told present batch cut reply new next = (reply ≡ line_of (codes "cut")) × (new ≡ None) × (next ≡ batch)
RepliesToOrder readers told present batch (whole (commands.Put file n) lines) reply new next = RepliesToEdit readers told present batch (put file (content_of lines)) reply new next
RepliesToOrder readers told present batch (whole (commands.Splice file from count n) lines) reply new next = RepliesToEdit readers told present batch (splice file from count (content_of lines)) reply new next
RepliesToOrder readers told present batch (whole (commands.Drop file) lines) reply new next = RepliesToEdit readers told present batch (drops file) reply new next
RepliesToOrder readers told present batch (whole (commands.Up net word) lines) reply new next = RepliesToWord present.project Up present.number (nfc_of net) (nfc_of word) reply × (new ≡ None) × (next ≡ batch)
RepliesToOrder readers told present batch (whole (commands.Down net word) lines) reply new next = RepliesToWord present.project Down present.number (nfc_of net) (nfc_of word) reply × (new ≡ None) × (next ≡ batch)
RepliesToOrder readers told present batch (whole commands.Begin lines) reply new next = RepliesToBegin batch reply next × (new ≡ None)
RepliesToOrder readers told present batch (whole commands.Commit lines) reply new next = RepliesToCommit readers told present batch reply new next
RepliesToOrder readers told present batch (whole commands.Abandon lines) reply new next = RepliesToAbandon batch reply next × (new ≡ None)
RepliesToOrder readers told present batch (whole commands.End lines) reply new next = ⊥

-- the replies to orders, one after another, from a version and a batch on, and the versions that these make, in order. What is held at the end of the orders makes none
abbrev pub AreReplies : Readers → List Row → Version → Batch → List Order → List ℕ → List Version → Type 0
AreReplies readers told present batch [] bytes made = (bytes ≡ []) × (made ≡ [])
AreReplies readers told present batch (order ∷ orders) bytes made =
    (reply : List ℕ) × (rest : List ℕ) × (new : Option Version) × (next : Batch) × (later : List Version) × (bytes ≡ reply ++ rest) × (made ≡ option_to_list new ++ later)
    × RepliesToOrder readers told present batch order reply new next × AreReplies readers told (unwrap_or new present) next orders rest later

-- the version that files are when they are loaded
pub record IsLoaded (readers : Readers) (told : List Row) (files : Files) (version : Version) : Type 0 where
  pub first : version.number ≡ first_version
  pub files_are : version.files ≡ files
  pub says : SourcesSay readers files told (Ok version.project)

-- what an editor's output gets for the lines of an input, and the versions from the loaded one on: that this is loaded, with
-- all its names, and then the replies to the orders
pub record IsEdited (readers : Readers) (told : List Row) (loaded : Version) (ended : Bool) (lines : List (List ℕ)) (bytes : List ℕ) (versions : List Version) : Type 0 where
  pub names : List (List ℕ)
  pub orders : List Order
  pub replies : List ℕ
  pub made : List Version
  pub are_names : AreNames (Defines loaded.project) names
  pub are_orders : AreOrders ended lines orders
  pub are_replies : AreReplies readers told loaded no_batch orders replies made
  pub bytes_are : bytes ≡ accepted_line loaded.number names ++ replies
  pub versions_are : versions ≡ loaded ∷ made
