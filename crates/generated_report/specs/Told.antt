-- What is told of one word, and what a network must find for that.
use Rattle.std.specs.Prelude.{◌≡◌, ◌↔◌, ℕ, List}
use Rattle.fsm_base.specs.Alphabet.{spelled, symbols_of, texts_of}
use Rattle.fsm_base.specs.declared.letters.Sym.{Sym}
use Rattle.interlinear.specs.Blocks.{width_of}
use Rattle.interlinear.specs.Glosses.{Entry}
use Rattle.interlinear.specs.Replies.{IsCell}
use Rattle.interlinear.specs.declared.columns.Cell.{Cell}
use Rattle.lookup.specs.Answering.{UpperTexts}
use Rattle.lookup.specs.Nets.{NetView}
use Rattle.lookup_answers.specs.declared.direction.Direction.TheVariants.{Up}
use Rattle.project_meaning.specs.Projects.{Project}
use Rattle.reply_meaning.specs.Replies.{Related}
use Rattle.word_relations.specs.Words.{IsOver}
use Rattle.generated_report.specs.Counts.{HasStrings}
use Rattle.generated_report.specs.declared.told.Told.{Told}

-- over the project's alphabet the network finds of each word the texts that the name relates to it, upwards
pub record FindsUpper (alphabet : List (Sym × List ℕ)) (net : NetView) (project : Project) (name : List ℕ) : Type 0 where
  pub alphabet_is : project.alphabet ≡ texts_of alphabet
  pub finds : (word : List Sym) → IsOver (symbols_of alphabet) word → (text : List ℕ) → UpperTexts net alphabet word text ↔ Related project Up name (spelled alphabet word) text

-- how many strings are found of the word, and how many columns the analysis in its cell takes
pub record IsTold (project : Project) (glosses : List Entry) (net word : List ℕ) (told : Told) : Type 0 where
  pub many : HasStrings project net word told.many
  pub cell : Cell
  pub cell_is : IsCell project glosses net cell
  pub word_is : cell.word ≡ word
  pub columns_are : told.columns ≡ width_of cell.analysis
