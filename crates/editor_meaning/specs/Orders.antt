-- The orders in an editor's input: its commands, each with the lines that follow it.
use Rattle.std.specs.Prelude.{◌≢◌, ◌<◌, ◌≤◌, ℕ, Bool, List, [], ◌∷◌, drop, length, take, if◌then◌else◌}
use Rattle.edit_script.specs.Commands.{IsCommand, lines_behind}
use Rattle.edit_script.specs.declared.commands.EditCommand.{EditCommand}
use Rattle.edit_script.specs.declared.commands.EditCommand.TheVariants as commands

pub data Order : Type 0 where
  -- a line in no form
  bad : Order
  -- a command behind which the input ends before its lines
  cut : Order
  -- a command, and the lines behind it
  whole : EditCommand → List (List ℕ) → Order

-- an input that wasn't read to its end doesn't say whether the lines of a command come
abbrev pub cut_by : Bool → List Order
cut_by ended = if ended then cut ∷ [] else []

-- the lines, each without its newline, are these orders. `ended` says that the input was read to its end. `end` is the last
-- command, and what follows it means nothing. A line in no form has no lines behind it
pub data AreOrders (ended : Bool) : List (List ℕ) → List Order → Type 0 where
  none : AreOrders ended [] []
  stopped : {line : List ℕ} {lines : List (List ℕ)} → IsCommand line commands.End → AreOrders ended (line ∷ lines) []
  no_command : {line : List ℕ} {lines : List (List ℕ)} {orders : List Order} → ((command : EditCommand) → IsCommand line command → ⊥)
      → AreOrders ended lines orders → AreOrders ended (line ∷ lines) (bad ∷ orders)
  cut_off : {line : List ℕ} {lines : List (List ℕ)} (command : EditCommand) → IsCommand line command → length lines < lines_behind command
      → AreOrders ended (line ∷ lines) (cut_by ended)
  ordered : {line : List ℕ} {lines : List (List ℕ)} {orders : List Order} (command : EditCommand) → IsCommand line command → command ≢ commands.End → lines_behind command ≤ length lines
      → AreOrders ended (drop (lines_behind command) lines) orders → AreOrders ended (line ∷ lines) (whole command (take (lines_behind command) lines) ∷ orders)
