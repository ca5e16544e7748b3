use Rattle.std.proofs.Common.{[], map, take}
use Rattle.regex_ast.specs.declared.fault.Fault.{Fault}
use Rattle.project_manifest.specs.Lines.{gloss_files_in}
use Rattle.project_manifest.specs.Rows.{First}
use Rattle.project_manifest.specs.Sayings.{placed_of}
use Rattle.project_sources.specs.Faults.{NamedFault}
use Rattle.project_sources.specs.Laws.{all_readers}
use Rattle.project_sources.specs.Sources.{FilesDefine, GlossesOf}
use Rattle.project_model.specs.Answers.{written_of}
use Rattle.project_model.proofs.files.contents_of.Given as goal

-- the files of the lines so far have no fault, and these definitions and glosses
abbrev pub invariant-lines : goal.invariant-lines
invariant-lines l = record {
  defines : FilesDefine all_readers l.sources (map placed_of (take l.line-index l.lines)) (map written_of l.written.items);
  glosses : GlossesOf all_readers l.sources [] (gloss_files_in (map placed_of (take l.line-index l.lines))) l.glosses;
  free : (found : Fault) → First (NamedFault all_readers l.sources) (map placed_of (take l.line-index l.lines)) found → ⊥;
}
