-- The reply to a line that is looked up in the network of an AT&T text, as in a network of a project: bytes, with a version's number first.
-- `long`, `line` and `symbol` are tried in this order, and then the related texts are told. A text has no names, so that `net` never comes.
-- Words are in Normalization Form C, and a text is the list of its bytes in UTF-8.
use Rattle.std.specs.Prelude.{◌≡◌, ◌++◌, ◌∷◌, ℕ, List, [], Option, None, Some, Ok, Err, codes, decimal}
use Rattle.word_relations.specs.Answers.{Texts, Found, Answers}
use Rattle.fsm_base.specs.Cut.{cut}
use Rattle.att_text.specs.Faults.{with_all}
use Rattle.att_text.specs.Lines.{said_in}
use Rattle.att_text.specs.Paths.{Relates}
use Rattle.reply_meaning.specs.Replies.{IsWord, answer_bytes, headed, word_of}

-- the symbols of a text, each once, in the order in which its lines name them
abbrev pub symbols_in : List ℕ → List (List ℕ)
symbols_in text = with_all (said_in text) []

-- the texts of the upper words that a text relates to the cut word
abbrev pub TextsAbove : List ℕ → List (List ℕ) → List ℕ → Type 0
TextsAbove text word = Texts (λ upper. Relates text upper word)

-- the reply to a word
pub data RepliesToWordBySaved (text : List ℕ) (version : ℕ) (word bytes : List ℕ) : Type 0 where
  no_symbol : (at : ℕ) → cut (symbols_in text) word ≡ Err at → bytes ≡ headed version (codes "symbol " ++ decimal at ++ 32 ∷ word) → RepliesToWordBySaved text version word bytes
  answered : (symbols : List (List ℕ)) (found : Found) → cut (symbols_in text) word ≡ Ok symbols → Answers (TextsAbove text symbols) found → bytes ≡ answer_bytes version word found → RepliesToWordBySaved text version word bytes
  -- want of memory is answered for the line alone
  no_memory : bytes ≡ headed version (codes "memory") → RepliesToWordBySaved text version word bytes

-- the reply to a line as it is told: `None` is one of more than 4,096 bytes
pub data RepliesBySaved (text : List ℕ) (version : ℕ) : Option (List ℕ) → List ℕ → Type 0 where
  long : {bytes : List ℕ} → bytes ≡ headed version (codes "long") → RepliesBySaved text version None bytes
  no_word : {line bytes : List ℕ} → ¬ (IsWord line) → bytes ≡ headed version (codes "line") → RepliesBySaved text version (Some line) bytes
  word : {line bytes : List ℕ} → IsWord line → RepliesToWordBySaved text version (word_of line) bytes → RepliesBySaved text version (Some line) bytes
