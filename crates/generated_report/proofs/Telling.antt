-- What is told of a word that was looked up.
use Rattle.std.proofs.Common.{◌≡◌, ℕ, List, codes, Ok, Err, ap, ◌∙◌}
use Rattle.fsm_base.specs.Alphabet.{spelled, symbols_of, texts_of}
use Rattle.fsm_base.specs.Cut.{cut}
use Rattle.fsm_base.specs.declared.letters.Sym.{Sym}
use Rattle.interlinear.specs.Blocks.{width_of}
use Rattle.interlinear.specs.Glosses.{Entry}
use Rattle.interlinear.specs.Replies as cells
use Rattle.interlinear.specs.Replies.{analysis_of, gloss_in}
use Rattle.interlinear.specs.declared.columns.Cell.{Cell}
use Rattle.lookup.specs.Answering.{UpperTexts}
use Rattle.lookup.specs.Nets.{NetView}
use Rattle.lookup_answers.proofs.AnswerKinds.{Answers-same}
use Rattle.lookup_answers.specs.declared.direction.Direction.TheVariants.{Up}
use Rattle.project_meaning.specs.Projects.{Project}
use Rattle.reply_meaning.specs.Replies.{Related}
use Rattle.word_relations.specs.Answers.{Answers, Found}
use Rattle.word_relations.specs.Words.{IsOver}
use Rattle.generated_report.specs.Counts.{how_many, looked_up, no_symbol}
use Rattle.generated_report.specs.Told.{FindsUpper, IsTold}
use Rattle.generated_report.specs.declared.told.HowMany.TheVariants.{None}
use Rattle.generated_report.specs.declared.told.Told.{Told}

module _ (project : Project) (glosses : List Entry) (name word : List ℕ) (alphabet : List (Sym × List ℕ)) (net : NetView) (finds : FindsUpper alphabet net project name) (cell : Cell) (told : Told) (same : cell.word ≡ word) (columns : told.columns ≡ width_of cell.analysis) where
  -- of a word that was looked up
  pub told_found : (symbols : List Sym) (found : Found) → cut (texts_of alphabet) word ≡ Ok (spelled alphabet symbols) → IsOver (symbols_of alphabet) symbols → Answers (UpperTexts net alphabet symbols) found
      → cell.analysis ≡ analysis_of found → cell.gloss ≡ gloss_in glosses found → told.many ≡ how_many found → IsTold project glosses name word told
  told_found symbols found is over answers analysis gloss many =
      let texts = spelled alphabet symbols in
      let cut_is : cut project.alphabet word ≡ Ok texts = ap (λ (a : List (List ℕ)). cut a word) finds.alphabet_is ∙ is in
      let lawful : Answers (Related project Up name texts) found = Answers-same (UpperTexts net alphabet symbols) (Related project Up name texts) (finds.finds symbols over) found answers in
      record {
        many = looked_up texts found cut_is lawful many;
        cell = cell;
        cell_is = cells.looked_up texts found (ap (cut project.alphabet) same ∙ cut_is) lawful analysis gloss;
        word_is = same;
        columns_are = columns;
      }

  -- of one in which no symbol begins at a place
  pub told_stopped : (at : ℕ) → cut (texts_of alphabet) word ≡ Err at → cell.analysis ≡ codes "*symbol" → cell.gloss ≡ codes "*" → told.many ≡ None → IsTold project glosses name word told
  told_stopped at is analysis gloss many =
      let cut_is : cut project.alphabet word ≡ Err at = ap (λ (a : List (List ℕ)). cut a word) finds.alphabet_is ∙ is in
      record {
        many = no_symbol at cut_is many;
        cell = cell;
        cell_is = cells.no_symbol at (ap (cut project.alphabet) same ∙ cut_is) analysis gloss;
        word_is = same;
        columns_are = columns;
      }
