-- The reply to a line that is looked up: bytes, with the version's number first. `long`, `line`, `net`
-- and `symbol` are tried in this order, and then the related texts are told. Words are in Normalization Form C.
use Rattle.std.specs.Prelude.{◌≡◌, ◌++◌, ◌==◌, if◌then◌else◌, ℕ, true, List, [], ◌∷◌, length, Option, None, Some, Ok, Err, codes, decimal}
use Rattle.std.specs.List.{flat_map}
use Rattle.std.specs.Str.{is_utf8}
use Rattle.fsm_base.specs.Normal.{nfc_of}
use Rattle.fsm_base.specs.Cut.{cut}
use Rattle.word_relations.specs.Answers.{Texts, Found, strings, more, loop, Answers}
use Rattle.project_meaning.specs.Projects.{Project, Defines}
use Rattle.project_meaning.specs.Meaning.{Meaning}
use Rattle.lookup_answers.specs.declared.direction.Direction.{Direction}
use Rattle.lookup_answers.specs.declared.direction.Direction.TheVariants.{Up, Down}

-- the bytes with a newline
abbrev pub line_of : List ℕ → List ℕ
line_of bytes = bytes ++ 10 ∷ []

-- the version, a space, and the rest of a reply's first line
abbrev pub headed : ℕ → List ℕ → List ℕ
headed version rest = line_of (decimal version ++ 32 ∷ rest)

abbrev pub answer_bytes : ℕ → List ℕ → Found → List ℕ
answer_bytes version word (strings texts) = headed version (decimal (length texts) ++ 32 ∷ word) ++ flat_map line_of texts
answer_bytes version word more = headed version (codes "more " ++ word)
answer_bytes version word (loop before round after) = headed version (codes "loop " ++ word) ++ line_of before ++ line_of round ++ line_of after

-- the bytes without this byte at their end
abbrev pub without_last : ℕ → List ℕ → List ℕ
without_last last [] = []
without_last last (b ∷ []) = if b == last then [] else b ∷ []
without_last last (b ∷ c ∷ bytes) = b ∷ without_last last (c ∷ bytes)

-- the line without a carriage return at its end
abbrev pub without_return : List ℕ → List ℕ
without_return line = without_last 13 line

-- a line can be a word where it is UTF-8 (RFC 3629)
abbrev pub IsWord : List ℕ → Type 0
IsWord line = is_utf8 (without_return line) ≡ true

-- the word of a line, in Normalization Form C (Unicode Standard Annex 15)
abbrev pub word_of : List ℕ → List ℕ
word_of line = nfc_of (without_return line)

-- the texts that a look-up of the cut word finds
abbrev pub Related : Project → Direction → List ℕ → List (List ℕ) → List ℕ → Type 0
Related project Up net word = Texts (λ u. Meaning project net u word)
Related project Down net word = Texts (λ w. Meaning project net word w)

-- the reply to a word
pub data RepliesToWord (project : Project) (direction : Direction) (version : ℕ) (net word bytes : List ℕ) : Type 0 where
  no_net : ¬ (Defines project net) → bytes ≡ headed version (codes "net " ++ net) → RepliesToWord project direction version net word bytes
  no_symbol : (at : ℕ) → Defines project net → cut project.alphabet word ≡ Err at → bytes ≡ headed version (codes "symbol " ++ decimal at ++ 32 ∷ word) → RepliesToWord project direction version net word bytes
  answered : (symbols : List (List ℕ)) (found : Found) → Defines project net → cut project.alphabet word ≡ Ok symbols → Answers (Related project direction net symbols) found → bytes ≡ answer_bytes version word found → RepliesToWord project direction version net word bytes
  -- want of memory is answered for the line alone
  no_memory : bytes ≡ headed version (codes "memory") → RepliesToWord project direction version net word bytes

-- the reply to a line as it is told: `None` is one of more than 4,096 bytes
pub data Replies (project : Project) (direction : Direction) (version : ℕ) (net : List ℕ) : Option (List ℕ) → List ℕ → Type 0 where
  long : {bytes : List ℕ} → bytes ≡ headed version (codes "long") → Replies project direction version net None bytes
  no_word : {line bytes : List ℕ} → ¬ (IsWord line) → bytes ≡ headed version (codes "line") → Replies project direction version net (Some line) bytes
  word : {line bytes : List ℕ} → IsWord line → RepliesToWord project direction version net (word_of line) bytes → Replies project direction version net (Some line) bytes
