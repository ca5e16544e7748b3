use Rattle.std.proofs.Common.{sym, ◌∙◌}
use Rattle.project_manifest.proofs.Worded.{byte_takes, byte_stays}
use Rattle.project_manifest.proofs.words.take_byte.Goals as goal

pub returns-then-takes : goal.returns-then-takes
returns-then-takes c = λ rest. byte_takes c.args.byte c.args.taking c.args.text.now.items rest (sym c.takes.ensures ∙ c.if-takes.true)

pub returns : goal.returns
returns c = λ rest. byte_stays c.args.byte c.args.taking c.args.text.now.items c.push.new.self.items rest (sym c.takes.ensures ∙ c.if-takes.false) c.in_ok-push.ensures.items
