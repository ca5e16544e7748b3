use Rattle.std.proofs.Common.{ap}
use Rattle.project_manifest.specs.Sayings.{as_written}
use Rattle.project_manifest.proofs.Utf8.{other_words}
use Rattle.project_manifest.proofs.declarations.declared.Goals as goal

pub declared_by-requires : goal.declared_by-requires
declared_by-requires c = other_words (as_written c.args.words.now) c.in-Some.first.now.items (as_written c.in-Some.others.now) (ap as_written c.in-Some.ensures.cases.0) c.requires
