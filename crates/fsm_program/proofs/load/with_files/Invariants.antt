use Rattle.std.proofs.Common.{◌≡◌, ◌≤◌, ℕ, List, All, take}
use Rattle.std.specs.List.{Contains}
use Rattle.fsm_io.specs.Folders.{AsksFor, Files, Told, file_of}
use Rattle.fsm_program.specs.Files.{as_read}
use Rattle.fsm_program.specs.Gathered.{IsSeen}
use Rattle.fsm_program.proofs.load.with_files.Given as goal

-- the files so far are seen and were asked for, and others are as before
abbrev pub invariant-names : goal.invariant-names
invariant-names g l = record {
  seen : Told (g.F.Folder.files l.fn.folder) (λ (files : Files). All (IsSeen l.sources files) (take l.name-index l.names));
  others : (other : List ℕ) → (Contains (take l.name-index l.names) other → ⊥) → file_of other l.sources ≡ file_of other l.fn.sources;
  asked : AsksFor (g.F.Folder.asked l.fn.folder) (g.F.Folder.asked l.folder) (as_read (take l.name-index l.names));
  files : g.F.Folder.files l.folder ≡ g.F.Folder.files l.fn.folder;
  later : g.F.Folder.faults l.fn.folder ≤ g.F.Folder.faults l.folder;
}
