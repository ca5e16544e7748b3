-- A lane's line has one reply at a version, but for want of memory and for which loop is shown.
use Rattle.std.specs.Prelude.{◌≡◌, ◌⊎◌, ℕ, List, Option, None, Some}
use Rattle.edit_script.specs.Commands.{IsLook}
use Rattle.edit_script.specs.declared.looks.Look.{Look}
use Rattle.edit_script.specs.declared.looks.Look.TheVariants as looks
use Rattle.project_sources.specs.Edits.{Version}
use Rattle.project_versions.specs.Looks.{RepliesToLook}
use Rattle.reply_meaning.specs.OneReply.{IsMemory, MayDiffer as WordsMayDiffer}

-- the line asks for this
abbrev pub AsksFor : Option (List ℕ) → Look → Type 0
AsksFor None look = ⊥
AsksFor (Some line) look = IsLook line look

-- How two replies to what is asked for may differ: one of them says that there was no memory, which is always said for the whole line;
-- or both show a loop of one word. Glosses don't show which loop a word has, so there is one block
abbrev pub MayDiffer : ℕ → Look → List ℕ → List ℕ → Type 0
MayDiffer version (looks.Up net word) a b = WordsMayDiffer version a b
MayDiffer version (looks.Down net word) a b = WordsMayDiffer version a b
MayDiffer version (looks.Gloss net text) a b = IsMemory version a ⊎ IsMemory version b
MayDiffer version looks.Rest a b = ⊥

-- two lawful replies to a line at a version are the same, unless the line asks for something and they differ as replies to it may
abbrev pub OneReplyToLook : Type 0
OneReplyToLook =
    (version : Version) (line : Option (List ℕ)) (a b : List ℕ) → RepliesToLook version line a → RepliesToLook version line b
    → (a ≡ b) ⊎ ((look : Look) × AsksFor line look × MayDiffer version.number look a b)
