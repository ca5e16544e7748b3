-- Why a change makes no version.
use Rattle.std.specs.Prelude.{◌<◌, ◌≤◌, List, Err}
use Rattle.editor_meaning.specs.Editing.{most_edits}
use Rattle.project_edits.specs.Applied.{edits_of}
use Rattle.project_edits.specs.declared.edit.Edit.{Edit}
use Rattle.project_sources.specs.declared.plan_error.PlanError.{PlanError}
use Rattle.project_sources.specs.declared.plan_error.PlanError.TheVariants as plans
use Rattle.project_sources.specs.Edits.{Changes, Version}
use Rattle.project_sources.specs.Faults.{rows}
use Rattle.project_sources.specs.Laws.{all_readers}
use Rattle.project_store.specs.declared.store_error.StoreError.{StoreError}
use Rattle.project_store.specs.declared.store_error.StoreError.TheVariants as stores
use Rattle.project_versions.specs.declared.edit_error.EditError.{EditError}
use Rattle.project_versions.specs.declared.edit_error.EditError.TheVariants.{Full, Refused, Memory}

abbrev pub of_plan_error : PlanError → EditError
of_plan_error (plans.Refused found) = Refused found
of_plan_error (plans.Memory refused) = Memory refused

abbrev pub of_store_error : StoreError → EditError
of_store_error (stores.Refused found) = Refused found
of_store_error (stores.Memory refused) = Memory refused

-- so many changes were accepted as may be; or the change, or the files that it makes, have this first fault; or want of memory
abbrev pub IsWhyNotEdited : Version → List Edit → EditError → Type 0
IsWhyNotEdited meant change Full = most_edits < meant.number
IsWhyNotEdited meant change (Refused found) = (meant.number ≤ most_edits) × Changes all_readers rows meant (edits_of change) (Err found)
IsWhyNotEdited meant change (Memory refused) = Unit {0}
