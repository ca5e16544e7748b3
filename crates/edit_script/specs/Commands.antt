-- The commands of an editor and the lines of a lane, as they are written: a keyword, and behind it words that one space
-- separates. What a line spells is the text of its line; names and words aren't normalized here.
use Rattle.std.specs.Prelude.{◌≡◌, ◌≢◌, ◌<◌, ◌≤◌, ◌⊎◌, ◌++◌, ℕ, List, [], ◌∷◌, length, All, codes, decimal}
use Rattle.fsm_io.specs.Lines.{most_line}
use Rattle.reply_meaning.specs.Replies.{IsWord, without_return}
use Rattle.project_manifest.specs.Manifests.{IsFileName, project_name}
use Rattle.edit_script.specs.declared.commands.EditCommand.{EditCommand}
use Rattle.edit_script.specs.declared.commands.EditCommand.TheVariants as commands
use Rattle.edit_script.specs.declared.commands.CommandKind.{CommandKind}
use Rattle.edit_script.specs.declared.commands.CommandKind.TheVariants as kinds
use Rattle.edit_script.specs.declared.looks.Look.{Look}
use Rattle.edit_script.specs.declared.looks.Look.TheVariants as looks
use Rattle.edit_script.specs.declared.errors.CommandError.{CommandError}
use Rattle.edit_script.specs.declared.errors.CommandError.TheVariants.{Bad, Memory}

-- a word, one space, and what stands behind it
abbrev pub spaced : List ℕ → List ℕ → List ℕ
spaced word rest = word ++ 32 ∷ rest

abbrev pub HasNoSpace : List ℕ → Type 0
HasNoSpace word = All (λ b. b ≢ 32) word

-- FILE: the manifest, or a file as the manifest names them
abbrev pub IsFile : List ℕ → Type 0
IsFile file = (file ≡ project_name) ⊎ IsFileName file

-- the greatest number of a command
abbrev pub most_number : ℕ
most_number = 1048576

-- the word of a number: in decimal, without a leading zero
abbrev pub IsNumber : ℕ → List ℕ → Type 0
IsNumber n word = (n ≤ most_number) × (word ≡ decimal n)

-- FILE N
pub record IsPut (file : List ℕ) (lines : ℕ) (rest : List ℕ) : Type 0 where
  pub words : rest ≡ spaced file (decimal lines)
  pub file_is : IsFile file
  pub few : lines ≤ most_number

-- FILE FROM COUNT N
pub record IsSplice (file : List ℕ) (from count lines : ℕ) (rest : List ℕ) : Type 0 where
  pub words : rest ≡ spaced file (spaced (decimal from) (spaced (decimal count) (decimal lines)))
  pub file_is : IsFile file
  pub low : from ≤ most_number
  pub little : count ≤ most_number
  pub few : lines ≤ most_number

-- NET WORD: a name, and then all the rest; the space before an empty word may be left out
pub record IsNetAndWord (net word rest : List ℕ) : Type 0 where
  pub some : 0 < length net
  pub no_space : HasNoSpace net
  pub words : (rest ≡ spaced net word) ⊎ ((word ≡ []) × (rest ≡ net))

-- the command that a keyword and what stands behind its space spell
abbrev pub Orders : List ℕ → List ℕ → EditCommand → Type 0
Orders keyword rest (commands.Put file lines) = (keyword ≡ codes "put") × IsPut file lines rest
Orders keyword rest (commands.Splice file from count lines) = (keyword ≡ codes "splice") × IsSplice file from count lines rest
Orders keyword rest (commands.Drop file) = (keyword ≡ codes "drop") × IsFile file × (rest ≡ file)
Orders keyword rest (commands.Up net word) = (keyword ≡ codes "up") × IsNetAndWord net word rest
Orders keyword rest (commands.Down net word) = (keyword ≡ codes "down") × IsNetAndWord net word rest
Orders keyword rest commands.Begin = ⊥
Orders keyword rest commands.Commit = ⊥
Orders keyword rest commands.Abandon = ⊥
Orders keyword rest commands.End = ⊥

-- the command that a word alone spells
abbrev pub IsAlone : List ℕ → EditCommand → Type 0
IsAlone text (commands.Put file lines) = ⊥
IsAlone text (commands.Splice file from count lines) = ⊥
IsAlone text (commands.Drop file) = ⊥
IsAlone text (commands.Up net word) = ⊥
IsAlone text (commands.Down net word) = ⊥
IsAlone text commands.Begin = text ≡ codes "begin"
IsAlone text commands.Commit = text ≡ codes "commit"
IsAlone text commands.Abandon = text ≡ codes "abandon"
IsAlone text commands.End = text ≡ codes "end"

-- the text spells the command
pub data SpellsCommand (text : List ℕ) : EditCommand → Type 0 where
  alone : {command : EditCommand} → IsAlone text command → SpellsCommand text command
  orders : {command : EditCommand} (keyword rest : List ℕ) → text ≡ spaced keyword rest → Orders keyword rest command → SpellsCommand text command

-- the same of a lane's line
abbrev pub Asks : List ℕ → List ℕ → Look → Type 0
Asks keyword rest (looks.Up net word) = (keyword ≡ codes "up") × IsNetAndWord net word rest
Asks keyword rest (looks.Down net word) = (keyword ≡ codes "down") × IsNetAndWord net word rest
Asks keyword rest (looks.Gloss net text) = (keyword ≡ codes "gloss") × IsNetAndWord net text rest
Asks keyword rest looks.Rest = ⊥

pub data SpellsLook (text : List ℕ) : Look → Type 0 where
  rests : text ≡ codes "---" → SpellsLook text looks.Rest
  asks : {look : Look} (keyword rest : List ℕ) → text ≡ spaced keyword rest → Asks keyword rest look → SpellsLook text look

-- the line isn't long, and it is UTF-8
pub record IsText (line : List ℕ) : Type 0 where
  pub short : length line ≤ most_line
  pub word : IsWord line

-- the line is this command, or this look-up; a carriage return at its end is dropped
abbrev pub IsCommand : List ℕ → EditCommand → Type 0
IsCommand line command = IsText line × SpellsCommand (without_return line) command

abbrev pub IsLook : List ℕ → Look → Type 0
IsLook line look = IsText line × SpellsLook (without_return line) look

-- what kind a command is of
abbrev pub kind_of : EditCommand → CommandKind
kind_of (commands.Put file lines) = kinds.Edit
kind_of (commands.Splice file from count lines) = kinds.Edit
kind_of (commands.Drop file) = kinds.Edit
kind_of (commands.Up net word) = kinds.LookUp
kind_of (commands.Down net word) = kinds.LookUp
kind_of commands.Begin = kinds.Word
kind_of commands.Commit = kinds.Word
kind_of commands.Abandon = kinds.Word
kind_of commands.End = kinds.Word

-- the line is a command with texts, which a word alone has none of
abbrev pub HasTexts : List ℕ → Type 0
HasTexts line = (command : EditCommand) × IsCommand line command × (kind_of command ≢ kinds.Word)

-- why there is no command: the line is none, or there was no memory for its texts
abbrev pub IsWhyNoCommand : List ℕ → CommandError → Type 0
IsWhyNoCommand line Bad = (command : EditCommand) → IsCommand line command → ⊥
IsWhyNoCommand line (Memory refused) = HasTexts line

abbrev pub IsWhyNoLook : List ℕ → CommandError → Type 0
IsWhyNoLook line Bad = (look : Look) → IsLook line look → ⊥
IsWhyNoLook line (Memory refused) = (look : Look) × IsLook line look × (look ≢ looks.Rest)

-- how many lines follow a command: the N of a put or a splice
abbrev pub lines_behind : EditCommand → ℕ
lines_behind (commands.Put file lines) = lines
lines_behind (commands.Splice file from count lines) = lines
lines_behind (commands.Drop file) = 0
lines_behind (commands.Up net word) = 0
lines_behind (commands.Down net word) = 0
lines_behind commands.Begin = 0
lines_behind commands.Commit = 0
lines_behind commands.Abandon = 0
lines_behind commands.End = 0

-- and how many follow a line: none where it is no command
pub data HasLines (line : List ℕ) (n : ℕ) : Type 0 where
  of_command : (command : EditCommand) → IsCommand line command → n ≡ lines_behind command → HasLines line n
  of_none : ((command : EditCommand) → IsCommand line command → ⊥) → n ≡ 0 → HasLines line n

-- the line is a command of this kind
abbrev pub HasKind : List ℕ → CommandKind → Type 0
HasKind line kind = (command : EditCommand) × IsCommand line command × (kind ≡ kind_of command)

-- a line is one command only, and one look-up only
abbrev pub OneCommand : Type 0
OneCommand = (line : List ℕ) (a b : EditCommand) → IsCommand line a → IsCommand line b → a ≡ b

abbrev pub OneLook : Type 0
OneLook = (line : List ℕ) (a b : Look) → IsLook line a → IsLook line b → a ≡ b
