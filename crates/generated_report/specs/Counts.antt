-- What is counted of a project and of words that are looked up upwards in one of its names.
use Rattle.std.specs.Prelude.{◌≡◌, ℕ, suc, Bool, true, false, List, [], ◌∷◌, length, Ok, Err}
use Rattle.std.specs.List.{sum_by}
use Rattle.fsm_base.specs.Cut.{cut}
use Rattle.interlinear.specs.Blocks.{width_of}
use Rattle.interlinear.specs.Glosses.{Entry}
use Rattle.interlinear.specs.Replies.{AreCells}
use Rattle.interlinear.specs.declared.columns.Cell.{Cell}
use Rattle.lookup_answers.specs.declared.direction.Direction.TheVariants.{Up}
use Rattle.project_meaning.specs.Projects.{Project}
use Rattle.reply_meaning.specs.Replies.{Related}
use Rattle.word_relations.specs.Answers.{Answers, Found, strings, more, loop}
use Rattle.generated_report.specs.declared.counts.Counts.{Counts}
use Rattle.generated_report.specs.declared.told.HowMany.{HowMany}
use Rattle.generated_report.specs.declared.told.HowMany.TheVariants.{None, One, Many}

-- how many strings an answer has: none, one, or more, also where they are too many to be listed, or without end
abbrev pub how_many : Found → HowMany
how_many (strings []) = None
how_many (strings (text ∷ [])) = One
how_many (strings (text ∷ other ∷ texts)) = Many
how_many more = Many
how_many (loop before round after) = Many

-- so many strings are found of a word when it is looked up upwards in a name: none where no symbol begins at some place, and else
-- as many as the texts that the name relates to its cut
pub data HasStrings (project : Project) (net word : List ℕ) (many : HowMany) : Type 0 where
  no_symbol : (at : ℕ) → cut project.alphabet word ≡ Err at → many ≡ None → HasStrings project net word many
  looked_up : (symbols : List (List ℕ)) (found : Found) → cut project.alphabet word ≡ Ok symbols → Answers (Related project Up net symbols) found → many ≡ how_many found → HasStrings project net word many

-- it is so of this number of items of a list, and of the others it isn't
pub data HasCount {A : Type 0} (P : A → Type 0) : List A → ℕ → Type 0 where
  nothing : HasCount P [] 0
  counted : {x : A} {xs : List A} {n : ℕ} → P x → HasCount P xs n → HasCount P (x ∷ xs) (suc n)
  passed : {x : A} {xs : List A} {n : ℕ} → ¬ (P x) → HasCount P xs n → HasCount P (x ∷ xs) n

-- the networks of the project are those of its definitions; each word has one string, more or none; and each has a cell, whose
-- analysis takes columns
pub record AreCounts (project : Project) (glosses : List Entry) (net : List ℕ) (words : List (List ℕ)) (counts : Counts) : Type 0 where
  pub names_are : counts.names ≡ length project.definitions
  pub words_are : counts.words ≡ length words
  pub one_is : HasCount (λ word. HasStrings project net word One) words counts.one
  pub many_is : HasCount (λ word. HasStrings project net word Many) words counts.many
  pub none_is : HasCount (λ word. HasStrings project net word None) words counts.none
  pub cells : List Cell
  pub cells_are : AreCells project glosses net words cells
  pub columns_are : counts.columns ≡ sum_by (λ cell. width_of cell.analysis) cells

-- it is the same kind
abbrev pub is_same : HowMany → HowMany → Bool
is_same None None = true
is_same One One = true
is_same Many Many = true
is_same _ _ = false
