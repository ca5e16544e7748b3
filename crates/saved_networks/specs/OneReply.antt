-- A line has one reply by a text, but for want of memory and for which loop is shown.
use Rattle.std.specs.Prelude.{◌≡◌, ◌⊎◌, ℕ, List, Option}
use Rattle.reply_meaning.specs.OneReply.{IsMemory, AreLoops}
use Rattle.saved_networks.specs.Replies.{RepliesBySaved}

-- two lawful replies to a line are the same, unless one of them is for want of memory, or both show a loop
abbrev pub OneReply : Type 0
OneReply =
    (text : List ℕ) (version : ℕ) (line : Option (List ℕ)) (a b : List ℕ) → RepliesBySaved text version line a → RepliesBySaved text version line b
    → (a ≡ b) ⊎ (IsMemory version a ⊎ IsMemory version b) ⊎ AreLoops version a b
