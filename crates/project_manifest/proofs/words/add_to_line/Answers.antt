use Rattle.std.proofs.Common.{sym, ap, ◌∙◌, ◌++◌}
use Rattle.project_manifest.specs.Manifests.{lines_from}
use Rattle.project_manifest.specs.Sayings.{as_written}
use Rattle.project_manifest.proofs.Worded.{line_ends, line_goes_on}
use Rattle.project_manifest.proofs.words.add_to_line.Goals as goal

pub returns-then-is_newline : goal.returns-then-is_newline
returns-then-is_newline c = λ rest.
    ap (λ z. as_written c.end_line.new.lines.items ++ lines_from z rest) c.in_ok-end_line.ensures.line
    ∙ line_ends c.args.byte (as_written c.args.lines.now.items) (as_written c.end_line.new.lines.items) c.args.line.now.items rest (sym c.is_newline.ensures ∙ c.if-is_newline.true) c.in_ok-end_line.ensures.lines

pub returns : goal.returns
returns c = λ rest. line_goes_on c.args.byte (as_written c.args.lines.now.items) c.args.line.now.items c.push.new.self.items rest (sym c.is_newline.ensures ∙ c.if-is_newline.false) c.in_ok-push.ensures.items
