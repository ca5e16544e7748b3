use Rattle.std.proofs.Common.{◌≡◌, drop}
use Rattle.fsm_io.specs.Folders.{file_of}
use Rattle.fsm_io.specs.Objects.{contents}
use Rattle.fsm_io.proofs.memory_folder.found_in.Given as goal

abbrev pub invariant-files : goal.invariant-files
invariant-files l = file_of l.name (contents (drop l.file-index l.files)) ≡ file_of l.name (contents l.files)
