-- The reply to a line of text that is glossed: the block of its words. The cell of a word says what is found of it when it is
-- looked up upwards in a network. The line is in Normalization Form C.
use Rattle.std.specs.Prelude.{◌≡◌, ◌++◌, ℕ, List, [], ◌∷◌, length, map, All, Option, None, Some, Ok, Err, codes, decimal}
use Rattle.fsm_base.specs.Cut.{cut}
use Rattle.word_relations.specs.Answers.{Found, strings, more, loop, Answers}
use Rattle.lookup_answers.specs.declared.direction.Direction.TheVariants.{Up}
use Rattle.project_meaning.specs.Projects.{Project, Defines}
use Rattle.reply_meaning.specs.Replies.{Related, IsWord, headed, word_of}
use Rattle.interlinear.specs.Blocks.{block_of}
use Rattle.interlinear.specs.Glosses.{Entry, glossed}
use Rattle.interlinear.specs.Words.{words_of}
use Rattle.interlinear.specs.declared.columns.Cell.{Cell}

-- what is found of a word, as an analysis: the first text, with their number where there are several
abbrev pub analysis_of : Found → List ℕ
analysis_of (strings []) = codes "*"
analysis_of (strings (text ∷ [])) = text
analysis_of (strings (text ∷ other ∷ texts)) = text ++ codes "(" ++ decimal (length (text ∷ other ∷ texts)) ++ codes ")"
analysis_of more = codes "*more"
analysis_of (loop before round after) = codes "*loop"

-- and in glosses: those of the first text
abbrev pub gloss_in : List Entry → Found → List ℕ
gloss_in entries (strings (text ∷ texts)) = glossed entries text
gloss_in entries _ = codes "*"

-- the cell of its word
pub data IsCell (project : Project) (entries : List Entry) (net : List ℕ) (cell : Cell) : Type 0 where
  no_symbol : (at : ℕ) → cut project.alphabet cell.word ≡ Err at → cell.analysis ≡ codes "*symbol" → cell.gloss ≡ codes "*" → IsCell project entries net cell
  looked_up : (symbols : List (List ℕ)) (found : Found) → cut project.alphabet cell.word ≡ Ok symbols → Answers (Related project Up net symbols) found → cell.analysis ≡ analysis_of found
      → cell.gloss ≡ gloss_in entries found → IsCell project entries net cell

-- the cells of these words, in order
pub record AreCells (project : Project) (entries : List Entry) (net : List ℕ) (words : List (List ℕ)) (cells : List Cell) : Type 0 where
  pub words_are : map (λ c. c.word) cells ≡ words
  pub each : All (IsCell project entries net) cells

-- the reply to a text
pub data GlossesText (project : Project) (entries : List Entry) (version : ℕ) (net text bytes : List ℕ) : Type 0 where
  no_net : ¬ (Defines project net) → bytes ≡ headed version (codes "net " ++ net) → GlossesText project entries version net text bytes
  in_block : (cells : List Cell) → Defines project net → AreCells project entries net (words_of text) cells → bytes ≡ block_of version cells → GlossesText project entries version net text bytes
  -- want of memory is answered for the line alone
  no_memory : bytes ≡ headed version (codes "memory") → GlossesText project entries version net text bytes

-- the reply to a line as it is told: `None` is one of more than 4,096 bytes
pub data GlossesLine (project : Project) (entries : List Entry) (version : ℕ) (net : List ℕ) : Option (List ℕ) → List ℕ → Type 0 where
  long : {bytes : List ℕ} → bytes ≡ headed version (codes "long") → GlossesLine project entries version net None bytes
  no_text : {line bytes : List ℕ} → ¬ (IsWord line) → bytes ≡ headed version (codes "line") → GlossesLine project entries version net (Some line) bytes
  glossed_line : {line bytes : List ℕ} → IsWord line → GlossesText project entries version net (word_of line) bytes → GlossesLine project entries version net (Some line) bytes
