use Rattle.std.proofs.Common.{ap, ◌∙◌, ◌++◌, ◌∷◌, []}
use Rattle.project_manifest.specs.Sayings.{as_written}
use Rattle.project_manifest.proofs.Worded.{written_more}
use Rattle.project_manifest.proofs.words.end_line.Goals as goal

pub returns-clause-lines : goal.returns-clause-lines
returns-clause-lines c = written_more c.args.lines.now.items c.push.new.self.items c.replace.result c.in_ok-push.ensures.items ∙ ap (λ v. as_written c.args.lines.now.items ++ v.items ∷ []) c.replace.ensures.value
