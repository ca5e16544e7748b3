-- The files that sources hold.
use Rattle.std.specs.Prelude.{ℕ, List, map}
use Rattle.std.specs.Prelude.{String, Vec}
use Rattle.std.specs.Arc.{arc_value}
use Rattle.std.specs.declared.sync.Arc.{Arc}
use Rattle.std.specs.Global.{Global}
use Rattle.std.specs.String.{string_bytes}
use Rattle.fsm_io.specs.Folders.{Files}

-- each by the bytes of its name and its content
abbrev pub files_in : List (String Global × Arc (Vec ℕ Global) Global) → Files
files_in entries = map (λ (e : String Global × Arc (Vec ℕ Global) Global). (string_bytes e.0, (arc_value e.1).items)) entries

-- their names
abbrev pub names_in : Files → List (List ℕ)
names_in files = map (λ file. file.0) files
