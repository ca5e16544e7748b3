-- Look-ups have one transcript, but for want of memory and for which loops are shown.
use Rattle.std.specs.Prelude.{◌≡◌, ◌⊎◌, ℕ, List, [], ◌∷◌, Option}
use Rattle.std.specs.List.{AllZip}
use Rattle.project_meaning.specs.Projects.{Project}
use Rattle.reply_meaning.specs.Replies.{Replies}
use Rattle.reply_meaning.specs.OneReply.{MayDiffer}
use Rattle.reply_meaning.specs.Transcripts.{IsTranscript, WithoutState}
use Rattle.lookup_answers.specs.declared.direction.Direction.{Direction}

-- the replies in a transcript, in order, where they depend on the line alone
abbrev pub replies_of : (R : Option (List ℕ) → List ℕ → Type 0) (lines : List (Option (List ℕ))) (bytes : List ℕ) → IsTranscript (WithoutState R) tt lines bytes tt → List (List ℕ)
replies_of R [] bytes t = []
replies_of R (line ∷ lines) bytes (reply, rest, after, is, lawful, others) = reply ∷ replies_of R lines rest others

-- it holds of some two that stand at one place
abbrev pub AnyZip : {A : Type 0} → (A → A → Type 0) → List A → List A → Type 0
AnyZip R [] ys = ⊥
AnyZip R (x ∷ xs) [] = ⊥
AnyZip R (x ∷ xs) (y ∷ ys) = R x y ⊎ AnyZip R xs ys

-- two transcripts of look-ups in the same lines have line by line the same reply, or two that may differ; where no two may, they are the same bytes
abbrev pub OneTranscript : Type 0
OneTranscript =
    (project : Project) (direction : Direction) (version : ℕ) (net : List ℕ) → let R = Replies project direction version net in
    (lines : List (Option (List ℕ))) (a b : List ℕ) (p : IsTranscript (WithoutState R) tt lines a tt) (q : IsTranscript (WithoutState R) tt lines b tt)
    → AllZip (λ x y. (x ≡ y) ⊎ MayDiffer version x y) (replies_of R lines a p) (replies_of R lines b q) × ((a ≡ b) ⊎ AnyZip (MayDiffer version) (replies_of R lines a p) (replies_of R lines b q))
