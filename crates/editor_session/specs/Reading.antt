-- What was read of an editor's input: a command, the lines that follow it, and what is to be replied to.
use Rattle.std.specs.Prelude.{◌≡◌, ◌≢◌, ◌<◌, ◌≤◌, ◌+◌, ◌⊎◌, ◌++◌, ℕ, Bool, true, false, List, [], ◌∷◌, length, take, Option, None, Some, ⊤}
use Rattle.fsm_io.specs.Buffers.{most_ahead}
use Rattle.fsm_io.specs.Lines.{most_line}
use Rattle.fsm_io.specs.Reading.{HasRead, LinesView}
use Rattle.fsm_io.specs.Taking.{filled}
use Rattle.project_sources.specs.Edits.{Version}
use Rattle.project_sources.specs.Faults.{rows}
use Rattle.project_sources.specs.Laws.{all_readers}
use Rattle.edit_script.specs.Commands.{IsCommand, lines_behind}
use Rattle.edit_script.specs.declared.commands.EditCommand.{EditCommand}
use Rattle.edit_script.specs.declared.commands.EditCommand.TheVariants as commands
use Rattle.reply_meaning.specs.Replies.{line_of}
use Rattle.reply_meaning.specs.declared.ending.Ending.{Ending}
use Rattle.reply_meaning.specs.declared.ending.Ending.TheVariants.{Finished, WriteFailed, ReadFailed, Spent}
use Rattle.editor_meaning.specs.Batches.{Batch}
use Rattle.editor_meaning.specs.Orders.{AreOrders, Order, whole}
use Rattle.editor_meaning.specs.Editing.{RepliesToOrder, content_of}
use Rattle.editor_session.specs.Keeping.{kept_batch}
use Rattle.editor_session.specs.Replying.{IsShort, RepliesToRequest}
use Rattle.editor_session.specs.Sessions.{EndsByCommand}
use Rattle.editor_session.specs.declared.payload.Payload.{Payload}
use Rattle.editor_session.specs.declared.payload.Payload.TheVariants.{Kept, Unkept, Stopped}
use Rattle.editor_session.specs.declared.payload.Payload.TheVariants as payloads
use Rattle.editor_session.specs.declared.request.Next.{Next}
use Rattle.editor_session.specs.declared.request.Next.TheVariants.{Asks, Ends}
use Rattle.editor_session.specs.declared.request.Request.{Request}
use Rattle.editor_session.specs.declared.request.Request.TheVariants as wanted

-- nothing was read of a further line
pub record IsSettled (reader : LinesView) : Type 0 where
  pub whole : reader.begun ≡ []
  pub few : length reader.ahead ≤ most_ahead

-- the reader stopped before a line, and can't go on: so it failed, or its budget was spent
pub record HasFailed (reader : LinesView) : Type 0 where
  pub going : reader.ended ≡ false
  pub none : reader.ahead ≡ []

-- these lines were read, and nothing of a further one
pub record HasHeard (left0 left : Option (List ℕ)) (budget : ℕ) (reader : LinesView) (lines : List (List ℕ)) : Type 0 where
  pub read : HasRead left0 left budget reader lines
  pub settled : IsSettled reader

-- ---- the lines that follow a command

-- how the input stopped before a line
abbrev pub HasStopped : LinesView → Payload → Type 0
HasStopped reader (Kept bytes) = ⊥
HasStopped reader Unkept = ⊥
HasStopped reader payloads.Cut = (reader.ended ≡ true) × IsSettled reader
HasStopped reader (Stopped Finished) = ⊥
HasStopped reader (Stopped WriteFailed) = ⊥
HasStopped reader (Stopped ReadFailed) = HasFailed reader
HasStopped reader (Stopped Spent) = HasFailed reader × (reader.budget ≡ 0)

-- a line more was heard, and its bytes put behind others, unless memory lacks; or the input stopped before it
abbrev pub HasTakenOne : Option (List ℕ) → Option (List ℕ) → ℕ → LinesView → List (List ℕ) → ℕ → List ℕ → List ℕ → Bool → Bool → Option Payload → Type 0
HasTakenOne left0 left budget reader heard most bytes0 bytes lacks0 lacks None =
    (line : List ℕ) × HasHeard left0 left budget reader (heard ++ line ∷ []) × (lacks ≡ false → (lacks0 ≡ false) × (bytes ≡ filled most bytes0 (line_of line)))
HasTakenOne left0 left budget reader heard most bytes0 bytes lacks0 lacks (Some payload) = HasRead left0 left budget reader heard × HasStopped reader payload

-- what came of lines of which so many were wanted
abbrev pub IsPayload : LinesView → ℕ → ℕ → List (List ℕ) → Payload → Type 0
IsPayload reader count most more (Kept bytes) = (length more ≡ count) × IsSettled reader × (bytes.items ≡ take most (content_of more))
IsPayload reader count most more Unkept = (length more ≡ count) × IsSettled reader × (0 < count)
IsPayload reader count most more payloads.Cut = (length more < count) × HasStopped reader payloads.Cut
IsPayload reader count most more (Stopped ending) = (length more < count) × HasStopped reader (Stopped ending)

pub record HasTaken (left0 left : Option (List ℕ)) (budget : ℕ) (reader : LinesView) (heard : List (List ℕ)) (count most : ℕ) (payload : Payload) : Type 0 where
  pub more : List (List ℕ)
  pub read : HasRead left0 left budget reader (heard ++ more)
  pub is : IsPayload reader count most more payload

-- ---- a command

-- each reply to the request is one to the order, where a batch is kept
abbrev pub IsFor : Order → Request → Type 0
IsFor order request =
    (present : Version) (batch : Batch) (reply : List ℕ) (new : Option Version) (kept : Batch) → RepliesToRequest present (kept_batch batch) request reply new kept
    → (next : Batch) × (kept ≡ kept_batch next) × RepliesToOrder all_readers rows present batch order reply new next

-- what a command with all its lines asks for
pub data IsAsked (command : EditCommand) (more : List (List ℕ)) : Next → Type 0 where
  requests : (request : Request) → command ≢ commands.End → length more ≡ lines_behind command → IsFor (whole command more) request → IsAsked command more (Asks request)
  ends : command ≡ commands.End → more ≡ [] → IsAsked command more (Ends Finished)

-- and with the lines that were read
pub data Obeys (command : EditCommand) (more : List (List ℕ)) (reader : LinesView) : Next → Type 0 where
  all : {next : Next} → IsAsked command more next → IsSettled reader → Obeys command more reader next
  cuts : length more < lines_behind command → reader.ended ≡ true → IsSettled reader → Obeys command more reader (Asks wanted.Cut)
  fails : length more < lines_behind command → HasFailed reader → Obeys command more reader (Ends ReadFailed)
  spends : length more < lines_behind command → HasFailed reader → reader.budget ≡ 0 → Obeys command more reader (Ends Spent)

pub record HasObeyed (left0 left : Option (List ℕ)) (budget : ℕ) (reader : LinesView) (heard : List (List ℕ)) (command : EditCommand) (next : Next) : Type 0 where
  pub more : List (List ℕ)
  pub read : HasRead left0 left budget reader (heard ++ more)
  pub obeys : Obeys command more reader next

-- what a line asks for, with the lines behind it that were read
pub data Follows (line : List ℕ) (more : List (List ℕ)) (reader : LinesView) : Next → Type 0 where
  of_command : {next : Next} (command : EditCommand) → IsCommand line command → Obeys command more reader next → Follows line more reader next
  of_none : ((command : EditCommand) → IsCommand line command → ⊥) → more ≡ [] → IsSettled reader → Follows line more reader (Asks wanted.Bad)

pub record HasFollowed (left0 left : Option (List ℕ)) (budget : ℕ) (reader : LinesView) (heard : List (List ℕ)) (line : List ℕ) (next : Next) : Type 0 where
  pub more : List (List ℕ)
  pub read : HasRead left0 left budget reader (heard ++ more)
  pub follows : Follows line more reader next

-- ---- what comes next

-- the lines are these orders, whatever lines follow. Where the input has ended none do
abbrev pub Say : Bool → List (List ℕ) → List Order → Type 0
Say closed lines orders =
    (ended : Bool) (more : List (List ℕ)) (later : List Order) → (closed ≡ true → (ended ≡ true) × (more ≡ [])) → AreOrders ended more later → AreOrders ended (lines ++ more) (orders ++ later)

-- lines more were read, which are an order, and the request is for it
pub record HasAsked (left0 left : Option (List ℕ)) (budget : ℕ) (old new : LinesView) (heard : List (List ℕ)) (request : Request) : Type 0 where
  pub going : old.ended ≡ false
  pub more : List (List ℕ)
  pub heard_all : HasHeard left0 left budget new (heard ++ more)
  pub order : Order
  pub says : Say new.ended more (order ∷ [])
  pub is_for : IsFor order request

-- lines more were read, which are no order, and nothing follows that is one
abbrev pub AreLast : LinesView → LinesView → List (List ℕ) → Ending → Type 0
AreLast old new more Finished = AreOrders true more [] × (old.ended ≡ true → more ≡ []) × ((new.ended ≡ true) ⊎ (IsSettled new × EndsByCommand more))
AreLast old new more WriteFailed = ⊥
AreLast old new more ReadFailed = AreOrders false more [] × (old.ended ≡ false) × HasFailed new
AreLast old new more Spent = AreOrders false more [] × (old.ended ≡ false) × HasFailed new × (new.budget ≡ 0)

pub record HasEnded (left0 left : Option (List ℕ)) (budget : ℕ) (old new : LinesView) (heard : List (List ℕ)) (ending : Ending) : Type 0 where
  pub more : List (List ℕ)
  pub read : HasRead left0 left budget new (heard ++ more)
  pub last : AreLast old new more ending

abbrev pub HasNext : Option (List ℕ) → Option (List ℕ) → ℕ → LinesView → LinesView → List (List ℕ) → Next → Type 0
HasNext left0 left budget old new heard (Asks request) = HasAsked left0 left budget old new heard request
HasNext left0 left budget old new heard (Ends ending) = HasEnded left0 left budget old new heard ending

abbrev pub IsGoing : Next → Type 0
IsGoing (Asks request) = ⊤
IsGoing (Ends ending) = ⊥

abbrev pub IsShortNext : Next → Type 0
IsShortNext (Asks request) = IsShort request
IsShortNext (Ends ending) = ⊤

-- a word that is looked up is no longer than a line
abbrev pub IsShortCommand : EditCommand → Type 0
IsShortCommand (commands.Put file lines) = ⊤
IsShortCommand (commands.Splice file from count lines) = ⊤
IsShortCommand (commands.Drop file) = ⊤
IsShortCommand (commands.Up net word) = length word ≤ most_line
IsShortCommand (commands.Down net word) = length word ≤ most_line
IsShortCommand commands.Begin = ⊤
IsShortCommand commands.Commit = ⊤
IsShortCommand commands.Abandon = ⊤
IsShortCommand commands.End = ⊤
