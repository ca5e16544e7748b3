-- What is replied to a request.
use Rattle.std.specs.Prelude.{◌≡◌, ◌≤◌, ◌⊎◌, ℕ, List, length, Option, None, Some, codes}
use Rattle.fsm_base.specs.Normal.{nfc_of}
use Rattle.fsm_io.specs.Lines.{most_line}
use Rattle.project_sources.specs.Edits.{Edit as EditMeant, Version}
use Rattle.project_sources.specs.Faults.{rows}
use Rattle.project_sources.specs.Laws.{all_readers}
use Rattle.project_edits.specs.Applied.{edit_of}
use Rattle.project_versions.specs.declared.edit_error.EditError.{EditError}
use Rattle.project_versions.specs.declared.edit_error.EditError.TheVariants as errors
use Rattle.reply_meaning.specs.Replies.{RepliesToWord, headed, line_of}
use Rattle.reply_text.specs.Batches.{batch_line}
use Rattle.reply_text.specs.Projects.{refused_line}
use Rattle.reply_text.specs.declared.batches.BatchReply.{BatchReply}
use Rattle.editor_meaning.specs.Batches.{Batch, spoilt}
use Rattle.editor_meaning.specs.Editing.{RepliesToAbandon, RepliesToBegin, RepliesToCommit, RepliesToEdit}
use Rattle.editor_session.specs.declared.reply.Reply.{Reply}
use Rattle.editor_session.specs.declared.reply.Reply.TheVariants as replies
use Rattle.editor_session.specs.declared.request.Request.{Request}
use Rattle.editor_session.specs.declared.request.Request.TheVariants.{Edit, LookUp, Begin, Commit, Abandon, Bad, Cut, UnkeptEdit, UnkeptLookUp}

abbrev pub no_memory_line : List ℕ
no_memory_line = line_of (codes "memory")

-- the reply to a request at the present version, the version that it makes, if it makes one, and the batch then. The reply to an edit that couldn't be kept
-- is one whatever the edit is
abbrev pub RepliesToRequest : Version → Batch → Request → List ℕ → Option Version → Batch → Type 0
RepliesToRequest present batch (Edit change) reply new next = RepliesToEdit all_readers rows present batch (edit_of change) reply new next
RepliesToRequest present batch (LookUp direction net word) reply new next = RepliesToWord present.project direction present.number (nfc_of net) (nfc_of word) reply × (new ≡ None) × (next ≡ batch)
RepliesToRequest present batch Begin reply new next = RepliesToBegin batch reply next × (new ≡ None)
RepliesToRequest present batch Commit reply new next = RepliesToCommit all_readers rows present batch reply new next
RepliesToRequest present batch Abandon reply new next = RepliesToAbandon batch reply next × (new ≡ None)
RepliesToRequest present batch Bad reply new next = (reply ≡ line_of (codes "bad")) × (new ≡ None) × (next ≡ spoilt batch)
RepliesToRequest present batch Cut reply new next = (reply ≡ line_of (codes "cut")) × (new ≡ None) × (next ≡ batch)
RepliesToRequest present batch UnkeptEdit reply new next = (edit : EditMeant) → RepliesToEdit all_readers rows present batch edit reply new next
RepliesToRequest present batch UnkeptLookUp reply new next = (reply ≡ headed present.number (codes "memory")) × (new ≡ None) × (next ≡ batch)

-- a word that is looked up is no longer than a line
abbrev pub IsShort : Request → Type 0
IsShort (Edit change) = Unit {0}
IsShort (LookUp direction net word) = length word ≤ most_line
IsShort Begin = Unit {0}
IsShort Commit = Unit {0}
IsShort Abandon = Unit {0}
IsShort Bad = Unit {0}
IsShort Cut = Unit {0}
IsShort UnkeptEdit = Unit {0}
IsShort UnkeptLookUp = Unit {0}

-- the bytes of a reply
abbrev pub bytes_of : Reply → List ℕ
bytes_of (replies.Bytes bytes) = bytes.items
bytes_of (replies.OfBatch said) = batch_line said
bytes_of replies.Bad = line_of (codes "bad")
bytes_of replies.Cut = line_of (codes "cut")
bytes_of replies.Full = line_of (codes "full")
bytes_of replies.Memory = no_memory_line
bytes_of (replies.MemoryAt number) = headed number (codes "memory")

-- what is replied where a batch was begun, or that there was no memory
abbrev pub said_of : Option BatchReply → List ℕ
said_of (Some said) = batch_line said
said_of None = no_memory_line

-- the reply to a change that makes no version
abbrev pub edit_reply : EditError → List ℕ → Type 0
edit_reply errors.Full reply = reply ≡ line_of (codes "full")
edit_reply (errors.Refused found) reply = (reply ≡ refused_line found) ⊎ (reply ≡ no_memory_line)
edit_reply (errors.Memory refused) reply = reply ≡ no_memory_line
