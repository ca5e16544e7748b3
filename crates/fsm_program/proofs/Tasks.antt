-- Replies to a line that are lawful whatever is done with lines.
use Rattle.std.proofs.Common.{ℕ, List, None, Some, Ok, Err, IfOk, Result, codes, refl}
use Rattle.interlinear.specs.Glosses.{Entry}
use Rattle.interlinear.specs.Replies.{glossed_line, no_text}
use Rattle.interlinear.specs.Replies.{long as long_text, no_memory as no_memory_for}
use Rattle.pair_lines.specs.Replies.{long as long_string, no_memory as no_memory_for_string, no_text as no_string_text, text as string_text}
use Rattle.project_meaning.specs.Projects.{Project}
use Rattle.reply_meaning.specs.Replies.{IsWord, headed, long, no_memory, no_word, word, word_of}
use Rattle.saved_networks.specs.Replies.{long as long_saved, no_memory as no_memory_for_saved, no_word as no_saved_word, word as saved_word}
use Rattle.fsm_program.specs.Tasks.{RepliesToLine, RepliesToLineIn, RepliesToText, RepliesToTextIn}
use Rattle.fsm_program.specs.declared.look_up.Subject.{Subject}
use Rattle.fsm_program.specs.declared.look_up.Subject.TheVariants.{Named, Rules, Saved}
use Rattle.fsm_program.specs.declared.look_up.Task.{Task}
use Rattle.fsm_program.specs.declared.look_up.Task.TheVariants.{Words, Glosses}

module _ (task : Task) (project : Project) (table : List Entry) (version : ℕ) (net : List ℕ) where
  pub of_long : RepliesToLine task project table version net None (headed version (codes "long"))
  of_long = by task
    where
      by : (task : Task) → RepliesToLine task project table version net None (headed version (codes "long"))
      by (Words direction) = long (λ i. headed version (codes "long"))
      by Glosses = long_text (λ i. headed version (codes "long"))

  module _ (line : List ℕ) where
    pub of_text : (bytes : List ℕ) → IsWord line → RepliesToText task project table version net (word_of line) bytes → RepliesToLine task project table version net (Some line) bytes
    of_text bytes is_word replies = by task replies
      where
        by : (task : Task) → RepliesToText task project table version net (word_of line) bytes → RepliesToLine task project table version net (Some line) bytes
        by (Words direction) replies = word is_word replies
        by Glosses replies = glossed_line is_word replies

    pub of_memory : IsWord line → RepliesToLine task project table version net (Some line) (headed version (codes "memory"))
    of_memory is_word = by task
      where
        by : (task : Task) → RepliesToLine task project table version net (Some line) (headed version (codes "memory"))
        by (Words direction) = word is_word (no_memory (λ i. headed version (codes "memory")))
        by Glosses = glossed_line is_word (no_memory_for (λ i. headed version (codes "memory")))

    pub of_line : ¬ (IsWord line) → RepliesToLine task project table version net (Some line) (headed version (codes "line"))
    of_line none = by task
      where
        by : (task : Task) → RepliesToLine task project table version net (Some line) (headed version (codes "line"))
        by (Words direction) = no_word none (λ i. headed version (codes "line"))
        by Glosses = no_text none (λ i. headed version (codes "line"))

-- what is so of an answer for each of these is so for all of them
pub if_ok_for : {A E X : Type 0} (C : X → Type 0) (P : X → A → Type 0) (r : Result A E) → ((x : X) → C x → IfOk r (P x)) → IfOk r (λ a. (x : X) → C x → P x a)
if_ok_for C P (Ok a) h = h
if_ok_for C P (Err e) h = tt

-- the same, whatever lines are looked up in
module _ (subject : Subject) (version : ℕ) where
  pub in_long : RepliesToLineIn subject version None (headed version (codes "long"))
  in_long = by subject
    where
      by : (subject : Subject) → RepliesToLineIn subject version None (headed version (codes "long"))
      by (Named network task) = λ project shows. of_long task project network.glosses version network.name
      by (Rules rules) = λ project shows. long_string refl
      by (Saved network) = λ saved is. long_saved refl

  module _ (line : List ℕ) where
    pub in_text : (bytes : List ℕ) → IsWord line → RepliesToTextIn subject version (word_of line) bytes → RepliesToLineIn subject version (Some line) bytes
    in_text bytes is_word replies = by subject replies
      where
        by : (subject : Subject) → RepliesToTextIn subject version (word_of line) bytes → RepliesToLineIn subject version (Some line) bytes
        by (Named network task) replies = λ project shows. of_text task project network.glosses version network.name line bytes is_word (replies project shows)
        by (Rules rules) replies = λ project shows. string_text is_word (replies project shows)
        by (Saved network) replies = λ saved is. saved_word is_word (replies saved is)

    pub in_memory : IsWord line → RepliesToLineIn subject version (Some line) (headed version (codes "memory"))
    in_memory is_word = by subject
      where
        by : (subject : Subject) → RepliesToLineIn subject version (Some line) (headed version (codes "memory"))
        by (Named network task) = λ project shows. of_memory task project network.glosses version network.name line is_word
        by (Rules rules) = λ project shows. string_text is_word (no_memory_for_string refl)
        by (Saved network) = λ saved is. saved_word is_word (no_memory_for_saved refl)

    pub in_line : ¬ (IsWord line) → RepliesToLineIn subject version (Some line) (headed version (codes "line"))
    in_line none = by subject
      where
        by : (subject : Subject) → RepliesToLineIn subject version (Some line) (headed version (codes "line"))
        by (Named network task) = λ project shows. of_line task project network.glosses version network.name line none
        by (Rules rules) = λ project shows. no_string_text none refl
        by (Saved network) = λ saved is. no_saved_word none refl
