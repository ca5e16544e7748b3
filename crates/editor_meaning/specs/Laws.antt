-- Laws of these definitions.
use Rattle.std.specs.Prelude.{◌≡◌, ◌+◌, ◌⊎◌, ℕ, Bool, List, [], ◌∷◌, Option, None, Err, codes}
use Rattle.regex_ast.specs.declared.fault.Fault.{Fault}
use Rattle.project_sources.specs.Edits.{Changes, Edit, Version}
use Rattle.project_sources.specs.Faults.{Row}
use Rattle.project_sources.specs.Sources.{Readers}
use Rattle.reply_meaning.specs.Replies.{line_of}
use Rattle.edit_script.specs.Commands.{kind_of}
use Rattle.edit_script.specs.declared.commands.CommandKind.TheVariants as kinds
use Rattle.editor_meaning.specs.Batches.{Batch}
use Rattle.editor_meaning.specs.Orders.{AreOrders, Order, bad, cut, whole}
use Rattle.editor_meaning.specs.Editing.{AreReplies, RepliesToChange, RepliesToOrder}

-- lines are one list of orders only
abbrev pub OneReading : Type 0
OneReading = (ended : Bool) (lines : List (List ℕ)) (a b : List Order) → AreOrders ended lines a → AreOrders ended lines b → a ≡ b

-- the order asks for words
abbrev pub LooksUp : Order → Type 0
LooksUp bad = ⊥
LooksUp cut = ⊥
LooksUp (whole command lines) = kind_of command ≡ kinds.LookUp

-- the reply says that there was no memory
abbrev pub IsNoMemory : List ℕ → Type 0
IsNoMemory reply = reply ≡ line_of (codes "memory")

-- one reply, and one batch then, unless one of them is for want of memory
abbrev pub AreOneReply : List ℕ → List ℕ → Batch → Batch → Type 0
AreOneReply a b next other = ((a ≡ b) × (next ≡ other)) ⊎ IsNoMemory a ⊎ IsNoMemory b

-- an order that looks nothing up has one reply, and leaves one batch, unless for want of memory
abbrev pub OneReplyToOrder : Readers → List Row → Type 0
OneReplyToOrder readers told =
    (present : Version) (batch : Batch) (order : Order) → (LooksUp order → ⊥) → (a b : List ℕ) (new another : Option Version) (next other : Batch)
    → RepliesToOrder readers told present batch order a new next → RepliesToOrder readers told present batch order b another other → AreOneReply a b next other

-- a change that is refused makes no version, whichever of its edits has the fault
abbrev pub RefusedMakesNone : Readers → List Row → Type 0
RefusedMakesNone readers told =
    (present : Version) (change : List Edit) (found : Fault) → Changes readers told present change (Err found) → (reply : List ℕ) (new : Option Version) → RepliesToChange readers told present change reply new → new ≡ None

-- versions with these numbers, counted from one
abbrev pub AreNumbered : ℕ → List Version → Type 0
AreNumbered number [] = Unit {0}
AreNumbered number (version ∷ versions) = (version.number ≡ number) × AreNumbered (number + 1) versions

-- the versions that orders make are numbered from the present one on, so a batch counts once
abbrev pub NumbersCount : Readers → List Row → Type 0
NumbersCount readers told =
    (present : Version) (batch : Batch) (orders : List Order) (bytes : List ℕ) (made : List Version) → AreReplies readers told present batch orders bytes made → AreNumbered (present.number + 1) made
