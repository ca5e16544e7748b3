-- A line has one gloss, but for want of memory.
use Rattle.std.specs.Prelude.{◌≡◌, ◌⊎◌, ℕ, List, Option}
use Rattle.project_meaning.specs.Projects.{Project}
use Rattle.reply_meaning.specs.OneReply.{IsMemory}
use Rattle.interlinear.specs.Glosses.{Entry}
use Rattle.interlinear.specs.Replies.{GlossesLine}

-- two lawful replies to a line are the same, unless one of them is for want of memory
abbrev pub OneBlock : Type 0
OneBlock =
    (project : Project) (entries : List Entry) (version : ℕ) (net : List ℕ) (line : Option (List ℕ)) (a b : List ℕ)
    → GlossesLine project entries version net line a → GlossesLine project entries version net line b
    → (a ≡ b) ⊎ (IsMemory version a ⊎ IsMemory version b)
