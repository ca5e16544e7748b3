-- What a line is answered is a reply at each version that a version stands for.
use Rattle.std.proofs.Common.{◌≡◌, ◌≢◌, ℕ, List, Some, Result, Ok, Err, IfOk, MatchResult, Vec, Global, codes, ap, sym, subst, refl}
use Rattle.std.specs.declared.alloc.AllocError.{AllocError}
use Rattle.edit_script.specs.Commands.{IsLook}
use Rattle.edit_script.specs.declared.looks.Look.{Look}
use Rattle.edit_script.specs.declared.looks.Look.TheVariants as looks
use Rattle.interlinear.specs.Glosses.{Entry}
use Rattle.interlinear.specs.Replies.{GlossesText, no_memory as no_memory_for_text}
use Rattle.lane_session.specs.Sending.{bytes_of}
use Rattle.lane_session.specs.declared.answers.Reply.{Reply}
use Rattle.lane_session.specs.declared.answers.Reply.TheVariants.{Bytes, Short}
use Rattle.lookup_answers.specs.declared.direction.Direction.{Direction}
use Rattle.project_sources.specs.Edits.{Version}
use Rattle.project_sources.specs.Faults.{rows}
use Rattle.project_sources.specs.Laws.{all_readers}
use Rattle.project_sources.proofs.Glossing.{some_table}
use Rattle.project_store.specs.Projects.{HasTable}
use Rattle.reply_meaning.specs.Replies.{RepliesToWord, headed, no_memory}
use Rattle.reply_text.specs.declared.heads.Head.TheVariants.{Memory}
use Rattle.project_versions.specs.Looks.{RepliesAt, RepliesToAsked, asked, no_look}
use Rattle.project_versions.specs.Versions.{Stands, VersionView}

-- what was made is a reply, and that there was no memory is one
reply_made : (R : List ℕ → Type 0) (number : ℕ) (found : Result (Vec ℕ Global) AllocError) (reply : Reply) → MatchResult found (λ bytes. reply ≡ Bytes bytes) (λ refused. reply ≡ Short Memory)
    → IfOk found (λ bytes. R bytes.items) → R (headed number (codes "memory")) → R (bytes_of number reply)
reply_made R number (Ok bytes) reply is told none = subst (λ (r : Reply). R (bytes_of number r)) (sym is) told
reply_made R number (Err refused) reply is told none = subst (λ (r : Reply). R (bytes_of number r)) (sym is) none

module _ (shown : VersionView) where
  abbrev Same : Version → List ℕ → Type 0
  Same meant word = headed shown.number word ≡ headed meant.number word

  same : (meant : Version) → Stands shown meant → (word : List ℕ) → Same meant word
  same meant stands word = ap (λ (n : ℕ). headed n word) stands.number

  -- the reply to a word
  pub word_made : (meant : Version) → Stands shown meant → (direction : Direction) (net word : List ℕ) (found : Result (Vec ℕ Global) AllocError) (reply : Reply)
      → MatchResult found (λ bytes. reply ≡ Bytes bytes) (λ refused. reply ≡ Short Memory)
      → IfOk found (λ bytes. RepliesToWord meant.project direction meant.number net word bytes.items)
      → RepliesToWord meant.project direction meant.number net word (bytes_of shown.number reply)
  word_made meant stands direction net word found reply is told =
      reply_made (RepliesToWord meant.project direction meant.number net word) shown.number found reply is told (no_memory (same meant stands (codes "memory")))

  -- and to a text
  pub text_made : (meant : Version) → Stands shown meant → (table : List Entry) (net text : List ℕ) (found : Result (Vec ℕ Global) AllocError) (reply : Reply)
      → MatchResult found (λ bytes. reply ≡ Bytes bytes) (λ refused. reply ≡ Short Memory)
      → IfOk found (λ bytes. GlossesText meant.project table meant.number net text bytes.items)
      → GlossesText meant.project table meant.number net text (bytes_of shown.number reply)
  text_made meant stands table net text found reply is told =
      reply_made (GlossesText meant.project table meant.number net text) shown.number found reply is told (no_memory_for_text (same meant stands (codes "memory")))

  -- that there was no memory, where a line asks for words or glosses
  memory_asked : (meant : Version) → Stands shown meant → (table : List Entry) (look : Look) → look ≢ looks.Rest → RepliesToAsked meant table look (headed shown.number (codes "memory"))
  memory_asked meant stands table (looks.Up net word) some = no_memory (same meant stands (codes "memory"))
  memory_asked meant stands table (looks.Down net word) some = no_memory (same meant stands (codes "memory"))
  memory_asked meant stands table (looks.Gloss net text) some = no_memory_for_text (same meant stands (codes "memory"))
  memory_asked meant stands table looks.Rest some = absurd (some refl)

  module _ (line : List ℕ) where
    -- the reply to what the line asks for
    pub reply_asked : (look : Look) → IsLook line look → (bytes : List ℕ) → ((meant : Version) (table : List Entry) → Stands shown meant → HasTable meant.files table → RepliesToAsked meant table look bytes) → RepliesAt shown (Some line) bytes
    reply_asked look is bytes told = λ version stands.
        (let (table, has) = some_table all_readers version.files rows version.project stands.says in
        asked look table is has (told version table stands has))

    -- the same where there was no memory to read it
    pub reply_unread : (look : Look) → IsLook line look → look ≢ looks.Rest → RepliesAt shown (Some line) (headed shown.number (codes "memory"))
    reply_unread look is some = reply_asked look is (headed shown.number (codes "memory")) (λ meant table stands has. memory_asked meant stands table look some)

    -- the reply to a line in no form
    pub reply_no_look : ((look : Look) → IsLook line look → ⊥) → RepliesAt shown (Some line) (headed shown.number (codes "line"))
    reply_no_look none = λ version stands. no_look none (same version stands (codes "line"))
