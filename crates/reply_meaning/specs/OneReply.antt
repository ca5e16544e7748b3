-- A line has one reply, but for want of memory and for which loop is shown.
use Rattle.std.specs.Prelude.{◌≡◌, ◌⊎◌, ℕ, List, Option, codes}
use Rattle.word_relations.specs.Answers.{loop}
use Rattle.project_meaning.specs.Projects.{Project}
use Rattle.reply_meaning.specs.Replies.{Replies, answer_bytes, headed}
use Rattle.lookup_answers.specs.declared.direction.Direction.{Direction}

-- the reply says that there was no memory
abbrev pub IsMemory : ℕ → List ℕ → Type 0
IsMemory version reply = reply ≡ headed version (codes "memory")

-- the reply shows a loop of this word's texts
pub record ShowsLoop (version : ℕ) (word reply : List ℕ) : Type 0 where
  pub before : List ℕ
  pub round : List ℕ
  pub after : List ℕ
  pub is : reply ≡ answer_bytes version word (loop before round after)

-- both are loops of one word
abbrev pub AreLoops : ℕ → List ℕ → List ℕ → Type 0
AreLoops version a b = (word : List ℕ) × ShowsLoop version word a × ShowsLoop version word b

-- two replies at one version may differ: one of them is for want of memory, or both show a loop
abbrev pub MayDiffer : ℕ → List ℕ → List ℕ → Type 0
MayDiffer version a b = (IsMemory version a ⊎ IsMemory version b) ⊎ AreLoops version a b

-- two lawful replies to a line are the same, unless one of them is for want of memory, or both show a loop
abbrev pub OneReply : Type 0
OneReply =
    (project : Project) (direction : Direction) (version : ℕ) (net : List ℕ) (line : Option (List ℕ)) (a b : List ℕ)
    → Replies project direction version net line a → Replies project direction version net line b
    → (a ≡ b) ⊎ MayDiffer version a b
