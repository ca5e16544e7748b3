use Rattle.std.proofs.Common.{◌≡◌, ◌≤◌, map, take, length}
use Rattle.word_relations.specs.Words.{IsDistinct}
use Rattle.project_meaning.specs.Projects.{names_of}
use Rattle.project_manifest.specs.Rows.{HaveNone, places}
use Rattle.project_model.specs.Answers.{written_of}
use Rattle.project_model.proofs.NameSteps.{Has}
use Rattle.project_model.proofs.names.names_of.Given as goal

-- the names of the definitions so far, which have no fault
abbrev pub invariant-written : goal.invariant-written
invariant-written l = record {
  names : l.names ≡ names_of (map written_of (take l.one-index l.written));
  distinct : IsDistinct l.names;
  few : length l.names ≤ 512;
  none : HaveNone Has (places (map written_of (take l.one-index l.written)));
}
