-- The report of a generated project: the counts of the project that its files are, and of the words of its text, a line each. The
-- text is of ASCII, so it is in Normalization Form C.
use Rattle.std.specs.Prelude.{◌≡◌, ◌++◌, ◌∷◌, [], ℕ, List, Ok, codes, decimal}
use Rattle.generated_report.specs.Generated.{generated, text}
use Rattle.interlinear.specs.Glosses.{Entry}
use Rattle.project_meaning.specs.Projects.{Project}
use Rattle.project_store.specs.Projects.{HasTable, Reads}
use Rattle.generated_report.specs.Counts.{AreCounts}
use Rattle.generated_report.specs.Words.{words_in}
use Rattle.generated_report.specs.declared.counts.Counts.{Counts}

-- a key, a space and a number
abbrev pub line_of : List ℕ → ℕ → List ℕ
line_of key number = key ++ 32 ∷ decimal number ++ 10 ∷ []

abbrev pub lines_of : Counts → List ℕ
lines_of counts =
    line_of (codes "names") counts.names ++ line_of (codes "words") counts.words ++ line_of (codes "one") counts.one
    ++ line_of (codes "many") counts.many ++ line_of (codes "none") counts.none ++ line_of (codes "columns") counts.columns

-- the lines have the counts of this project and text, whose words are looked up in `Net`
pub record IsReport (stems : ℕ) (bytes : List ℕ) : Type 0 where
  pub project : Project
  pub glosses : List Entry
  pub counts : Counts
  pub reads : Reads (generated stems) (Ok project)
  pub has_table : HasTable (generated stems) glosses
  pub counted : AreCounts project glosses (codes "Net") (words_in (text stems)) counts
  pub lines : bytes ≡ lines_of counts
