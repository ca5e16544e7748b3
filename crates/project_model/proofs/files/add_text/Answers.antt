use Rattle.project_model.proofs.FileSteps.{none_else}
use Rattle.project_model.proofs.files.add_text.Goals as goal

pub unreachable-requires : goal.unreachable-requires
unreachable-requires c = none_else c.args.line.now.declares c.args.file.now c.requires.file c.in_default.not-Definitions c.in_default.not-Lexicon c.in_default.not-Grammar c.in_default.not-Glosses
