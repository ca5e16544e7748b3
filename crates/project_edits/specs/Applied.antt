-- What edits make of the files of a project.
use Rattle.std.specs.Prelude.{List, Result, Ok, Err, map}
use Rattle.fsm_io.specs.Folders.{Files}
use Rattle.project_sources.specs.Refusals.{IsRefusedBy}
use Rattle.project_sources.specs.declared.plan_error.PlanError.{PlanError}
use Rattle.project_sources.specs.Edits.{Apply, Edit, drops, held_in, put, splice}
use Rattle.project_edits.specs.declared.edit.Edit.{Edit as EditOf}
use Rattle.project_edits.specs.declared.edit.Edit.TheVariants as edits

-- the edit that a value stands for
abbrev pub edit_of : EditOf → Edit
edit_of (edits.Put file bytes) = put file bytes.items
edit_of (edits.Splice file from count bytes) = splice file from count bytes.items
edit_of (edits.Drop file) = drops file

-- the edits that values stand for, in their order
abbrev pub edits_of : List EditOf → List Edit
edits_of change = map edit_of change

-- the edits, one after another, make these files of the old ones; or they are refused by the first fault of the first that has one, or for want of memory
abbrev pub IsApplied : List Edit → Files → Result Files PlanError → Type 0
IsApplied change old (Ok new) = Apply change (held_in old) (Ok (held_in new))
IsApplied change old (Err error) = IsRefusedBy (λ found. Apply change (held_in old) (Err found)) error
