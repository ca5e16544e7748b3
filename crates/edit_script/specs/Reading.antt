-- Commands and look-ups whose texts are parts of their line.
use Rattle.edit_script.specs.declared.commands.EditCommand.{EditCommand}
use Rattle.edit_script.specs.declared.commands.EditCommand.TheVariants as commands
use Rattle.edit_script.specs.declared.commands.CommandOf.{CommandOf}
use Rattle.edit_script.specs.declared.commands.CommandOf.TheVariants as parts
use Rattle.edit_script.specs.declared.looks.Look.{Look}
use Rattle.edit_script.specs.declared.looks.Look.TheVariants as looks
use Rattle.edit_script.specs.declared.looks.LookOf.{LookOf}
use Rattle.edit_script.specs.declared.looks.LookOf.TheVariants as look_parts

abbrev pub command_of : CommandOf → EditCommand
command_of (parts.Put file lines) = commands.Put file.now lines
command_of (parts.Splice file from count lines) = commands.Splice file.now from count lines
command_of (parts.Drop file) = commands.Drop file.now
command_of (parts.Up net word) = commands.Up net.now word.now
command_of (parts.Down net word) = commands.Down net.now word.now
command_of parts.Begin = commands.Begin
command_of parts.Commit = commands.Commit
command_of parts.Abandon = commands.Abandon
command_of parts.End = commands.End

abbrev pub look_of : LookOf → Look
look_of (look_parts.Up net word) = looks.Up net.now word.now
look_of (look_parts.Down net word) = looks.Down net.now word.now
look_of (look_parts.Gloss net text) = looks.Gloss net.now text.now
look_of look_parts.Rest = looks.Rest
