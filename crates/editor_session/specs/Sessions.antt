-- What an editor's output got for the bytes that were taken of its input, by how the answering ended.
use Rattle.std.specs.Prelude.{◌≡◌, ◌≤◌, ◌++◌, ℕ, Bool, true, false, List, [], ◌∷◌, length, Option}
use Rattle.std.specs.Io.KnownBytes.{Appends, Consumes, IsAtEnd}
use Rattle.fsm_io.specs.Buffers.{most_ahead}
use Rattle.fsm_io.specs.Lines.{raw_lines}
use Rattle.project_sources.specs.Edits.{Version}
use Rattle.project_sources.specs.Faults.{rows}
use Rattle.project_sources.specs.Laws.{all_readers}
use Rattle.edit_script.specs.Commands.{IsCommand}
use Rattle.edit_script.specs.declared.commands.EditCommand.TheVariants as commands
use Rattle.reply_meaning.specs.declared.ending.Ending.{Ending}
use Rattle.reply_meaning.specs.declared.ending.Ending.TheVariants.{Finished, WriteFailed, ReadFailed, Spent}
use Rattle.editor_meaning.specs.Editing.{IsEdited}
use Rattle.editor_meaning.specs.Orders.{AreOrders, Order}

-- these are the lines that were heard of the bytes taken. Those behind them were taken with them, and are no more than one read gives
pub record IsHeard (ended : Bool) (taken : List ℕ) (heard : List (List ℕ)) : Type 0 where
  pub ahead : List ℕ
  pub lines_are : raw_lines ended taken ≡ heard ++ raw_lines ended ahead
  pub few : length ahead ≤ most_ahead

-- the lines are whole orders: what follows them is read as if it stood alone, so that a command may stand behind them
abbrev pub AreWhole : List (List ℕ) → List Order → Type 0
AreWhole lines orders = (ended : Bool) (more : List (List ℕ)) (later : List Order) → AreOrders ended more later → AreOrders ended (lines ++ more) (orders ++ later)

-- the last of the lines is `end`, which stands where a command may stand
pub record EndsByCommand (lines : List (List ℕ)) : Type 0 where
  pub before : List (List ℕ)
  pub line : List ℕ
  pub orders : List Order
  pub lines_are : lines ≡ before ++ line ∷ []
  pub are_whole : AreWhole before orders
  pub is_end : IsCommand line commands.End

-- all lines of the input were heard, or those up to `end`
pub data HearsAll (left : Option (List ℕ)) (taken : List ℕ) (heard : List (List ℕ)) : Type 0 where
  to_end : IsAtEnd left → raw_lines true taken ≡ heard → HearsAll left taken heard
  to_command : IsHeard false taken heard → EndsByCommand heard → HearsAll left taken heard

-- the bytes are what an editor's output gets for these lines, by all readers and rows
abbrev pub Edits : Version → Bool → List (List ℕ) → List ℕ → List Version → Type 0
Edits loaded ended lines bytes versions = IsEdited all_readers rows loaded ended lines bytes versions

-- Of what the output gets for these lines no more is wanting than a rest of one reply: of the first line, where nothing was heard, or of the reply to the
-- last order. What it gets for the lines before that order was written
pub data WantsOneReply (loaded : Version) (ended : Bool) (heard : List (List ℕ)) (written : List ℕ) : Type 0 where
  of_first_line : heard ≡ [] → WantsOneReply loaded ended heard written
  of_last_order : (before more : List (List ℕ)) (order : Order) (answered front : List ℕ) (versions : List Version) → heard ≡ before ++ more → AreOrders ended more (order ∷ [])
      → written ≡ answered ++ front → Edits loaded false before answered versions → WantsOneReply loaded ended heard written

-- the bytes are a front of what the output gets for lines that were heard, up to the reply that couldn't be written. A last piece without newline is
-- among the lines only where the input is at its end
pub record IsCutShort (loaded : Version) (left : Option (List ℕ)) (taken written : List ℕ) (versions : List Version) : Type 0 where
  pub ended : Bool
  pub heard : List (List ℕ)
  pub rest : List ℕ
  pub is_heard : IsHeard ended taken heard
  pub at_end : ended ≡ true → IsAtEnd left
  pub edits : Edits loaded ended heard (written ++ rest) versions
  pub few : WantsOneReply loaded ended heard written

-- what was written for the bytes taken, and the versions from the loaded one on. A last piece without newline is a line only where
-- the input was read to its end, and a command whose lines weren't all read has no reply where it wasn't
abbrev pub IsWritten : Version → Ending → Option (List ℕ) → List ℕ → List ℕ → List Version → Type 0
IsWritten loaded Finished left taken written versions = (heard : List (List ℕ)) × HearsAll left taken heard × Edits loaded true heard written versions
IsWritten loaded WriteFailed left taken written versions = IsCutShort loaded left taken written versions
IsWritten loaded ReadFailed left taken written versions = Edits loaded false (raw_lines false taken) written versions
IsWritten loaded Spent left taken written versions = Edits loaded false (raw_lines false taken) written versions

-- the bytes taken from the input, what the output got for them, and the versions from the loaded one on
pub record HasEdited (loaded : Version) (versions : List Version) (budget : ℕ) (left0 left held0 held : Option (List ℕ)) (ending : Ending) : Type 0 where
  pub taken : List ℕ
  pub written : List ℕ
  pub consumed : Consumes left0 left taken
  pub appended : Appends held0 held written
  pub output : IsWritten loaded ending left taken written versions
  pub spends : ending ≡ Spent → length taken ≡ budget
