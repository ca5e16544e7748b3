-- An editor's input has one transcript, but for want of memory and for which loop a look-up shows.
use Rattle.std.specs.Prelude.{◌≡◌, ◌≢◌, ◌⊎◌, ℕ, Bool, List, [], ◌∷◌, Option, None, Some, ⊤}
use Rattle.std.specs.List.{AllZip}
use Rattle.std.specs.Option.{unwrap_or}
use Rattle.fsm_io.specs.Folders.{Files, file_of}
use Rattle.project_sources.specs.Edits.{Version}
use Rattle.project_sources.specs.Faults.{Row}
use Rattle.project_sources.specs.Sources.{Readers}
use Rattle.reply_meaning.specs.OneReply.{MayDiffer}
use Rattle.reply_meaning.specs.OneTranscript.{AnyZip}
use Rattle.editor_meaning.specs.Batches.{Batch, no_batch}
use Rattle.editor_meaning.specs.Orders.{Order}
use Rattle.editor_meaning.specs.Editing.{AreReplies, IsEdited, IsLoaded, RepliesToOrder}
use Rattle.editor_meaning.specs.Laws.{IsNoMemory, LooksUp}

-- the same version, in whatever order its files are listed
pub record IsSameVersion (a b : Version) : Type 0 where
  pub number : a.number ≡ b.number
  pub files : (name : List ℕ) → file_of name a.files ≡ file_of name b.files
  pub project : a.project ≡ b.project

-- what an order got: the number of the version that it was answered at, the reply, the version that it made, if it made one, and the batch then
pub record Turn : Type 0 where
  pub order : Order
  pub number : ℕ
  pub reply : List ℕ
  pub made : Option Version
  pub batch : Batch

abbrev pub turn_at : Version → Order → List ℕ → Option Version → Batch → Turn
turn_at present order reply made batch = record { order = order; number = present.number; reply = reply; made = made; batch = batch }

-- the turns of orders, in order
abbrev pub turns_of : (readers : Readers) (told : List Row) (present : Version) (batch : Batch) (orders : List Order) (bytes : List ℕ) (made : List Version) → AreReplies readers told present batch orders bytes made → List Turn
turns_of readers told present batch [] bytes made replies = []
turns_of readers told present batch (order ∷ orders) bytes made (reply, rest, new, next, later, is, made_is, lawful, others) =
    turn_at present order reply new next ∷ turns_of readers told (unwrap_or new present) next orders rest later others

-- neither order made a version, or both the same one
abbrev pub AreSameMade : Option Version → Option Version → Type 0
AreSameMade None None = ⊤
AreSameMade None (Some b) = ⊥
AreSameMade (Some a) None = ⊥
AreSameMade (Some a) (Some b) = IsSameVersion a b

-- the orders behind two turns meet the same version and the same batch, if those before did
pub record LeaveSame (a b : Turn) : Type 0 where
  pub made : AreSameMade a.made b.made
  pub batch : a.batch ≡ b.batch

pub record IsSameTurn (a b : Turn) : Type 0 where
  pub reply : a.reply ≡ b.reply
  pub leave : LeaveSame a b

-- the replies to a look-up differ as two at one version may. It changes nothing
pub record LooksDiffer (a b : Turn) : Type 0 where
  pub looks : LooksUp a.order
  pub replies : MayDiffer a.number a.reply b.reply
  pub none : (a.made ≡ None) × (b.made ≡ None)
  pub batch : a.batch ≡ b.batch

-- there was no memory for the order, and it made no version
abbrev pub Lacks : Turn → Type 0
Lacks turn = IsNoMemory turn.reply × (turn.made ≡ None)

-- of two turns of any other order one lacks memory, and the other one has another reply
pub record LacksOne (a b : Turn) : Type 0 where
  pub no_look : LooksUp a.order → ⊥
  pub apart : a.reply ≢ b.reply
  pub lacks : Lacks a ⊎ Lacks b

-- how two turns of one order may differ
abbrev pub TurnsDiffer : Turn → Turn → Type 0
TurnsDiffer a b = LooksDiffer a b ⊎ LacksOne a b

-- two turns of one order, at one number
pub record AreOneTurn (a b : Turn) : Type 0 where
  pub order : a.order ≡ b.order
  pub number : a.number ≡ b.number
  pub turns : IsSameTurn a b ⊎ TurnsDiffer a b

-- Turn by turn they are one, up to the first two that leave different versions or batches: want of memory told them apart, and
-- what is said then depends on what was left
abbrev pub Agree : List Turn → List Turn → Type 0
Agree [] [] = ⊤
Agree [] (b ∷ others) = ⊥
Agree (a ∷ turns) [] = ⊥
Agree (a ∷ turns) (b ∷ others) = AreOneTurn a b × (LeaveSame a b → Agree turns others)

-- an order has one turn at a version and a batch
abbrev pub OneTurn : Readers → List Row → Type 0
OneTurn readers told =
    (present again : Version) → IsSameVersion present again → (batch : Batch) (order : Order) (a b : List ℕ) (new another : Option Version) (next other : Batch)
    → RepliesToOrder readers told present batch order a new next → RepliesToOrder readers told again batch order b another other
    → AreOneTurn (turn_at present order a new next) (turn_at again order b another other)

-- a look-up makes no version, and leaves the batch as it is
abbrev pub LookUpsChangeNothing : Readers → List Row → Type 0
LookUpsChangeNothing readers told =
    (present : Version) (batch : Batch) (order : Order) → LooksUp order → (reply : List ℕ) (new : Option Version) (next : Batch) → RepliesToOrder readers told present batch order reply new next → (new ≡ None) × (next ≡ batch)

-- files are one version when they are loaded
abbrev pub OneLoaded : Readers → List Row → Type 0
OneLoaded readers told = (files : Files) (a b : Version) → IsLoaded readers told files a → IsLoaded readers told files b → IsSameVersion a b

-- the turns of an input's orders
abbrev pub turns_in : (readers : Readers) (told : List Row) (loaded : Version) (ended : Bool) (lines : List (List ℕ)) (bytes : List ℕ) (versions : List Version) → IsEdited readers told loaded ended lines bytes versions → List Turn
turns_in readers told loaded ended lines bytes versions edited = turns_of readers told loaded no_batch edited.orders edited.replies edited.made edited.are_replies

-- From one version on, the lines of an input have transcripts that tell the same names first and agree then; where no two turns differ, they are the
-- same bytes, and make the same versions
abbrev pub OneTranscript : Readers → List Row → Type 0
OneTranscript readers told =
    (loaded again : Version) → IsSameVersion loaded again → (ended : Bool) (lines : List (List ℕ)) (bytes others : List ℕ) (versions more : List Version)
    (p : IsEdited readers told loaded ended lines bytes versions) (q : IsEdited readers told again ended lines others more)
    → let turns = turns_in readers told loaded ended lines bytes versions p in let also = turns_in readers told again ended lines others more q in
    (p.names ≡ q.names) × Agree turns also × (((bytes ≡ others) × AllZip IsSameVersion versions more) ⊎ AnyZip TurnsDiffer turns also)
