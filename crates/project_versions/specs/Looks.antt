-- What a lane's line is answered at a version. The words of the line are put into Normalization Form C.
use Rattle.std.specs.Prelude.{◌≡◌, ◌≤◌, ℕ, List, Option, None, Some, ⊤, codes, length}
use Rattle.fsm_base.specs.Normal.{nfc_of}
use Rattle.fsm_io.specs.Lines.{most_line}
use Rattle.edit_script.specs.Commands.{IsLook}
use Rattle.edit_script.specs.declared.looks.Look.{Look}
use Rattle.edit_script.specs.declared.looks.Look.TheVariants as looks
use Rattle.interlinear.specs.Glosses.{Entry}
use Rattle.interlinear.specs.Replies.{GlossesText}
use Rattle.lookup_answers.specs.declared.direction.Direction.TheVariants.{Up, Down}
use Rattle.project_sources.specs.Edits.{Version}
use Rattle.project_store.specs.Projects.{HasTable}
use Rattle.project_versions.specs.Versions.{Stands, VersionView}
use Rattle.reply_meaning.specs.Replies.{RepliesToWord, headed}

-- the reply to what a line asks for, where texts have these glosses: that there was no memory only where it asks for words or glosses.
-- A mark behind the first one is in no form
abbrev pub RepliesToAsked : Version → List Entry → Look → List ℕ → Type 0
RepliesToAsked version table (looks.Up net word) bytes = RepliesToWord version.project Up version.number (nfc_of net) (nfc_of word) bytes
RepliesToAsked version table (looks.Down net word) bytes = RepliesToWord version.project Down version.number (nfc_of net) (nfc_of word) bytes
RepliesToAsked version table (looks.Gloss net text) bytes = GlossesText version.project table version.number (nfc_of net) (nfc_of text) bytes
RepliesToAsked version table looks.Rest bytes = bytes ≡ headed version.number (codes "line")

-- the reply to a line as it is told: `None` is one of more than 4,096 bytes
pub data RepliesToLook (version : Version) : Option (List ℕ) → List ℕ → Type 0 where
  long : {bytes : List ℕ} → bytes ≡ headed version.number (codes "long") → RepliesToLook version None bytes
  no_look : {line bytes : List ℕ} → ((look : Look) → IsLook line look → ⊥) → bytes ≡ headed version.number (codes "line") → RepliesToLook version (Some line) bytes
  asked : {line bytes : List ℕ} (look : Look) (table : List Entry) → IsLook line look → HasTable version.files table → RepliesToAsked version table look bytes → RepliesToLook version (Some line) bytes

-- the same at a version as contracts see it: it is a reply at each version that this one stands for
abbrev pub RepliesAt : VersionView → Option (List ℕ) → List ℕ → Type 0
RepliesAt shown line bytes = (version : Version) → Stands shown version → RepliesToLook version line bytes

-- the word or the text that is asked for is no longer than a line
abbrev pub IsShort : Look → Type 0
IsShort (looks.Up net word) = length word ≤ most_line
IsShort (looks.Down net word) = length word ≤ most_line
IsShort (looks.Gloss net text) = length text ≤ most_line
IsShort looks.Rest = ⊤
