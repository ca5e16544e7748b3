-- Why there is no report.
use Rattle.std.specs.Prelude.{ℕ, Err}
use Rattle.generated_report.specs.Generated.{generated}
use Rattle.project_store.specs.Projects.{Reads}
use Rattle.project_store.specs.declared.store_error.StoreError.{StoreError}
use Rattle.project_store.specs.declared.store_error.StoreError.TheVariants.{Refused, Memory}

-- the first fault of the generated files, or want of memory
abbrev pub IsWhyNone : ℕ → StoreError → Type 0
IsWhyNone stems (Refused found) = Reads (generated stems) (Err found)
IsWhyNone stems (Memory refused) = Unit {0}
