-- What a change makes of a version, and why it makes none.
use Rattle.std.proofs.Common.{◌≡◌, ◌≤◌, ◌+◌, ℕ, List, Result, Ok, Err, IfErr, sym, subst, inl, inr}
use Rattle.std.specs.Result.{IsErrAnd}
use Rattle.editor_meaning.specs.Editing.{most_edits}
use Rattle.fsm_io.specs.Folders.{Files}
use Rattle.project_edits.specs.Applied.{edits_of}
use Rattle.project_edits.specs.declared.edit.Edit.{Edit}
use Rattle.project_sources.specs.Refusals.{IsRefusedBy}
use Rattle.project_sources.specs.declared.plan_error.PlanError.{PlanError}
use Rattle.project_sources.specs.declared.plan_error.PlanError.TheVariants as plans
use Rattle.project_sources.specs.Edits.{Apply, Changes, Version, held_in}
use Rattle.project_sources.specs.Faults.{rows}
use Rattle.project_sources.specs.Laws.{all_readers}
use Rattle.project_sources.specs.Sources.{Said, project_in}
use Rattle.project_store.specs.Projects.{IsWhyNot, Reads}
use Rattle.project_store.specs.declared.store_error.StoreError.{StoreError}
use Rattle.project_store.specs.declared.store_error.StoreError.TheVariants as stores
use Rattle.project_versions.specs.Errors.{IsWhyNotEdited, of_plan_error, of_store_error}
use Rattle.project_versions.specs.Versions.{Stands, VersionView}

module _ (old : VersionView) (meant : Version) (stands : Stands old meant) (few : old.number ≤ most_edits) (change : List Edit) where
  few_meant : meant.number ≤ most_edits
  few_meant = subst (λ (n : ℕ). n ≤ most_edits) stands.number few

  -- the change is refused
  pub refused_change : (error : PlanError) → IsRefusedBy (λ found. Apply (edits_of change) (held_in old.files) (Err found)) error → IsWhyNotEdited meant change (of_plan_error error)
  refused_change (plans.Refused found) applied = (few_meant, inl (subst (λ (files : Files). Apply (edits_of change) (held_in files) (Err found)) stands.files applied))
  refused_change (plans.Memory refused) applied = tt

  module _ (sources : Files) (applied : Apply (edits_of change) (held_in old.files) (Ok (held_in sources))) where
    applied_meant : Apply (edits_of change) (held_in meant.files) (Ok (held_in sources))
    applied_meant = subst (λ (files : Files). Apply (edits_of change) (held_in files) (Ok (held_in sources))) stands.files applied

    -- the files that it makes are refused
    pub refused_files : (error : StoreError) → IsWhyNot sources error → IsWhyNotEdited meant change (of_store_error error)
    refused_files (stores.Refused found) why = (few_meant, inr (sources, applied_meant, why))
    refused_files (stores.Memory refused) why = tt

    -- they are the next version
    pub changes : (said : Said) → Reads sources (Ok (project_in said)) → (number : ℕ) → number ≡ old.number + 1
        → Changes all_readers rows meant (edits_of change) (Ok (record { number = number; files = sources; project = project_in said }))
    changes said says number is = (applied_meant, says, subst (λ (n : ℕ). number ≡ n + 1) stands.number is)

-- the error that another one becomes is so where that one is
pub fails_by : {T E : Type 0} (r : Result T E) (P : E → Type 0) (error : E) → IsErrAnd r (λ e. e ≡ error) → P error → IfErr r P
fails_by (Ok x) P error is h = tt
fails_by (Err e) P error is h = subst P (sym is) h
