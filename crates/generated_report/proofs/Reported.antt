-- The report of the files that are made, which have the content of the generated ones.
use Rattle.std.proofs.Common.{◌≡◌, ℕ, List, Result, Ok, Err, IfErr, sym, subst}
use Rattle.std.specs.Prelude.{codes}
use Rattle.std.specs.Result.{IsErrAnd}
use Rattle.fsm_io.specs.Folders.{Files}
use Rattle.generated_report.specs.Generated.{generated, text}
use Rattle.project_sources.specs.Faults.{rows}
use Rattle.project_sources.specs.Laws.{all_readers}
use Rattle.project_sources.specs.Sources.{Said, project_in}
use Rattle.project_sources.proofs.SameFiles.{AreSame, same_answer, same_table}
use Rattle.project_store.specs.Loaded.{IsLoadedFrom, LoadedView}
use Rattle.project_store.specs.Projects.{IsOfSources, IsWhyNot}
use Rattle.project_store.specs.declared.store_error.StoreError.{StoreError}
use Rattle.project_store.specs.declared.store_error.StoreError.TheVariants.{Refused, Memory}
use Rattle.generated_report.specs.Counts.{AreCounts}
use Rattle.generated_report.specs.Errors.{IsWhyNone}
use Rattle.generated_report.specs.Reports.{IsReport, lines_of}
use Rattle.generated_report.specs.Words.{words_in}
use Rattle.generated_report.specs.declared.counts.Counts.{Counts}

module _ (stems : ℕ) (files : Files) (same : AreSame files (generated stems)) where
  -- why there is none
  pub why_none : (error : StoreError) → IsWhyNot files error → IsWhyNone stems error
  why_none (Refused found) why = same_answer all_readers files (generated stems) same rows (Err found) why
  why_none (Memory refused) why = tt

  -- the lines of the counts of the project that is loaded
  pub reported : (loaded : LoadedView) → IsOfSources files loaded → (counts : Counts) → ((said : Said) → IsLoadedFrom said loaded → AreCounts (project_in said) loaded.glosses (codes "Net") (words_in (text stems)) counts)
      → (bytes : List ℕ) → bytes ≡ lines_of counts → IsReport stems bytes
  reported loaded (said, from, reads, table) counts are bytes lines = record {
    project = project_in said;
    glosses = loaded.glosses;
    counts = counts;
    reads = same_answer all_readers files (generated stems) same rows (Ok (project_in said)) reads;
    has_table = same_table all_readers files (generated stems) same loaded.glosses table;
    counted = are said from;
    lines = lines;
  }

-- the error that another one becomes is so where that one is
pub fails_by : {T E : Type 0} (r : Result T E) (P : E → Type 0) (error : E) → IsErrAnd r (λ e. e ≡ error) → P error → IfErr r P
fails_by (Ok x) P error is h = tt
fails_by (Err e) P error is h = subst P (sym is) h
