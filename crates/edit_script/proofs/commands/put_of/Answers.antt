use Rattle.std.proofs.Common.{true≢false, sym, ◌∙◌}
use Rattle.edit_script.proofs.Parts.{put_needs_words, put_needs_file, put_needs_number}
use Rattle.edit_script.proofs.commands.put_of.Goals as goal

pub returns-in_err-file : goal.returns-in_err-file
returns-in_err-file c = rw c.from_residual.ensures (put_needs_words c.args.rest.now c.in_err-file.ensures)

pub returns-then-not-is_file : goal.returns-then-not-is_file
returns-then-not-is_file c =
    put_needs_file c.args.rest.now c.in_ok-file.file.now c.in_ok-file.lines.now c.in_ok-file.ensures.0 c.in_ok-file.ensures.1 (λ is. true≢false (sym (c.is_file.ensures.1 is) ∙ c.if-not-is_file.true))

pub returns-in_err-lines : goal.returns-in_err-lines
returns-in_err-lines c = rw c.from_residual-in_err-lines.ensures (put_needs_number c.args.rest.now c.in_ok-file.file.now c.in_ok-file.lines.now c.in_ok-file.ensures.0 c.in_ok-file.ensures.1 c.in_err-lines.ensures)
