use Rattle.std.proofs.Common.{◌≡◌, map, take}
use Rattle.regex_reader.specs.Files.{FaultAt}
use Rattle.project_manifest.specs.Lines.{SayingsFault, files_in, line_rows, lines_in}
use Rattle.project_manifest.specs.Reading.{IsManifest}
use Rattle.project_manifest.specs.Sayings.{placed_of, saying_of}
use Rattle.project_manifest.proofs.manifest.read_manifest.Given as goal

-- the lines so far, and the files that they name; none of them has a fault
abbrev pub invariant-all : goal.invariant-all
invariant-all l = record {
  lines : map placed_of l.lines.items ≡ lines_in (map saying_of (take l.one-index l.one-items));
  files : l.files.items ≡ files_in (map placed_of l.lines.items);
  formed : IsManifest (map placed_of l.lines.items);
  free : (found : FaultAt) → SayingsFault line_rows (map saying_of (take l.one-index l.one-items)) found → ⊥;
}
