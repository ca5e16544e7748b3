use Rattle.std.proofs.Common.{sym, map}
use Rattle.project_manifest.specs.Sayings.{line_of}
use Rattle.project_manifest.specs.Sayings.{placed_of}
use Rattle.project_model.specs.Answers.{written_of}
use Rattle.project_model.proofs.FileSteps.{defined_files}
use Rattle.project_model.proofs.Glossing.{glossed_files}
use Rattle.project_model.proofs.files.add_file.Goals as goal

pub returns-in-Ok-clause-written : goal.returns-in-Ok-clause-written
returns-in-Ok-clause-written c =
    defined_files c.args.sources.now (placed_of c.args.line.now) c.args.file.now c.in-Some.content.now c.in-Ok.text c.add_text.result (map written_of c.args.written.now.items) (map written_of c.add_text.new.written.items) c.requires
    (sym (rw c.as_str.ensures at c.in-Some.ensures)) c.in-Ok.ensures.text (rw c.as_str-in-Ok.ensures at c.add_text.ensures.written)

pub returns-in-Ok-clause-glosses : goal.returns-in-Ok-clause-glosses
returns-in-Ok-clause-glosses c =
    glossed_files c.args.sources.now (line_of c.args.line.now.declares) c.args.file.now c.in-Some.content.now c.in-Ok.text c.add_text.result c.args.glosses.now c.add_text.new.glosses c.requires (sym (rw c.as_str.ensures at c.in-Some.ensures))
    c.in-Ok.ensures.text (rw c.as_str-in-Ok.ensures at c.add_text.ensures.glosses)
