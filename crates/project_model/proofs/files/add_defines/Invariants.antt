use Rattle.std.proofs.Common.{◌≡◌, ◌++◌, map}
use Rattle.regex_reader.specs.Files.{statement_of}
use Rattle.project_sources.specs.Sources.{stated}
use Rattle.project_model.specs.Answers.{written_of}
use Rattle.project_model.proofs.files.add_defines.Given as goal

-- the definitions so far
abbrev pub invariant-defines : goal.invariant-defines
invariant-defines l = map written_of l.written.items ≡ map written_of l.initial.written.items ++ map (stated l.file) (map statement_of l.yielded)
