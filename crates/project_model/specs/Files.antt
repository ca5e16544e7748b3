-- What is read of the files that a manifest names.
use Rattle.std.specs.Prelude.{◌≡◌, ◌++◌, ℕ, List, Ok, Err}
use Rattle.fsm_io.specs.Folders.{Files}
use Rattle.regex_ast.specs.declared.fault.Fault.{Fault}
use Rattle.regex_reader.specs.Files.{FaultAt}
use Rattle.interlinear.specs.Glosses.{Entry}
use Rattle.project_manifest.specs.Lines.{Line, Placed, file_in, gloss_line}
use Rattle.project_meaning.specs.Projects.{Written}
use Rattle.project_sources.specs.Faults.{NamedFault, fault}
use Rattle.project_sources.specs.Laws.{all_readers}
use Rattle.project_sources.specs.Sources.{FileDefines, TextSays}

-- the definitions of a text of the file that a line names were put behind others
abbrev pub HasPut : Placed → List ℕ → List Written → List Written → Type 0
HasPut l text old new = (more : List Written) × TextSays all_readers l.line l.said text (Ok more) × (new ≡ old ++ more)

-- the table of glosses of such a text, if it is one of glosses, was put in place of the one before
abbrev pub HasGlossed : Line → List ℕ → List Entry → List Entry → Type 0
HasGlossed (gloss_line file) text old new = all_readers.gloss text (Ok new)
HasGlossed _ text old new = new ≡ old

-- the text of the file that a line names isn't read
abbrev pub IsUnread : Placed → List ℕ → List ℕ → Fault → Type 0
IsUnread l file text found = (at : FaultAt) × TextSays all_readers l.line l.said text (Err at) × (found ≡ fault file at.line at.why)

-- the file that a line names, if it names one, has no fault, and its definitions were put behind others
pub record HasDefined (files : Files) (l : Placed) (old new : List Written) : Type 0 where
  pub more : List Written
  pub defines : FileDefines all_readers files l (file_in l.said) more
  pub put : new ≡ old ++ more
  pub faultless : (found : Fault) → NamedFault all_readers files l found → ⊥
