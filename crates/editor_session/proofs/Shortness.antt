-- The word of a command is no longer than its line.
use Rattle.std.proofs.Common.{ℕ, ◌<◌, ◌≤◌, List, ◌∷◌, length, ap, arith, length-append}
use Rattle.fsm_io.specs.Lines.{most_line}
use Rattle.reply_meaning.specs.Replies.{without_return}
use Rattle.edit_script.specs.Commands.{IsAlone, IsCommand, Orders, SpellsCommand, alone, orders}
use Rattle.edit_script.specs.declared.commands.EditCommand.{EditCommand}
use Rattle.edit_script.specs.declared.commands.EditCommand.TheVariants as commands
use Rattle.project_versions.proofs.Shortness.{no_longer, short_word}
use Rattle.editor_session.specs.Reading.{IsShortCommand}

short_order : (keyword rest : List ℕ) (command : EditCommand) → length rest ≤ most_line → Orders keyword rest command → IsShortCommand command
short_order keyword rest (commands.Put file n) short h = tt
short_order keyword rest (commands.Splice file from count n) short h = tt
short_order keyword rest (commands.Drop file) short h = tt
short_order keyword rest (commands.Up net word) short h = omega (arith, short, short_word net word rest h.1)
short_order keyword rest (commands.Down net word) short h = omega (arith, short, short_word net word rest h.1)
short_order keyword rest commands.Begin short h = tt
short_order keyword rest commands.Commit short h = tt
short_order keyword rest commands.Abandon short h = tt
short_order keyword rest commands.End short h = tt

short_alone : (text : List ℕ) (command : EditCommand) → IsAlone text command → IsShortCommand command
short_alone text (commands.Put file n) h = tt
short_alone text (commands.Splice file from count n) h = tt
short_alone text (commands.Drop file) h = tt
short_alone text (commands.Up net word) h = absurd h
short_alone text (commands.Down net word) h = absurd h
short_alone text commands.Begin h = tt
short_alone text commands.Commit h = tt
short_alone text commands.Abandon h = tt
short_alone text commands.End h = tt

short_spelling : (text : List ℕ) (command : EditCommand) → length text ≤ most_line → SpellsCommand text command → IsShortCommand command
short_spelling text command short (alone is) = short_alone text command is
short_spelling text command short (orders keyword rest is h) = short_order keyword rest command (omega (arith, short, ap length is, length-append keyword (32 ∷ rest))) h

pub short_command : (line : List ℕ) (command : EditCommand) → IsCommand line command → IsShortCommand command
short_command line command is = short_spelling (without_return line) command (omega (arith, is.0.short, no_longer 13 line)) is.1

-- no line that is long is a command
pub too_long : (line : List ℕ) → most_line < length line → (command : EditCommand) → IsCommand line command → ⊥
too_long line long command is = absurd (omega (arith, is.0.short, long))
