use Rattle.std.proofs.Common.{true≢false, sym, ◌∙◌}
use Rattle.edit_script.proofs.Parts.{splice_needs_words, splice_needs_file, splice_needs_more, splice_needs_last, splice_needs_from, splice_needs_count, splice_needs_lines}
use Rattle.edit_script.proofs.commands.splice_of.Goals as goal

pub returns-in_err-file : goal.returns-in_err-file
returns-in_err-file c = rw c.from_residual.ensures (splice_needs_words c.args.rest.now c.in_err-file.ensures)

pub returns-then-not-is_file : goal.returns-then-not-is_file
returns-then-not-is_file c =
    splice_needs_file c.args.rest.now c.in_ok-file.file.now c.in_ok-file.numbers.now c.in_ok-file.ensures.0 c.in_ok-file.ensures.1 (λ is. true≢false (sym (c.is_file.ensures.1 is) ∙ c.if-not-is_file.true))

pub returns-in_err-from : goal.returns-in_err-from
returns-in_err-from c = rw c.from_residual-in_err-from.ensures (splice_needs_more c.args.rest.now c.in_ok-file.file.now c.in_ok-file.numbers.now c.in_ok-file.ensures.0 c.in_ok-file.ensures.1 c.in_err-from.ensures)

pub returns-in_err-count : goal.returns-in_err-count
returns-in_err-count c =
    rw c.from_residual-in_err-count.ensures
    (splice_needs_last c.args.rest.now c.in_ok-file.file.now c.in_ok-file.numbers.now c.in_ok-file.ensures.0 c.in_ok-file.ensures.1 c.in_ok-from.from.now c.in_ok-from.numbers.now c.in_ok-from.ensures.0 c.in_ok-from.ensures.1 c.in_err-count.ensures)

pub returns-in_err-number : goal.returns-in_err-number
returns-in_err-number c =
    rw c.from_residual-in_err-number.ensures
    (splice_needs_from c.args.rest.now c.in_ok-file.file.now c.in_ok-file.numbers.now c.in_ok-file.ensures.0 c.in_ok-file.ensures.1 c.in_ok-from.from.now c.in_ok-from.numbers.now c.in_ok-from.ensures.0 c.in_ok-from.ensures.1 c.in_err-number.ensures)

pub returns-in_err-number-2 : goal.returns-in_err-number-2
returns-in_err-number-2 c =
    rw c.from_residual-in_err-number-2.ensures
    (splice_needs_count c.args.rest.now c.in_ok-file.file.now c.in_ok-file.numbers.now c.in_ok-file.ensures.0 c.in_ok-file.ensures.1 c.in_ok-from.from.now c.in_ok-from.numbers.now c.in_ok-from.ensures.0 c.in_ok-from.ensures.1
    c.in_ok-count.count.now c.in_ok-count.lines.now c.in_ok-count.ensures.0 c.in_ok-count.ensures.1 c.in_err-number-2.ensures)

pub returns-in_err-number-3 : goal.returns-in_err-number-3
returns-in_err-number-3 c =
    rw c.from_residual-in_err-number-3.ensures
    (splice_needs_lines c.args.rest.now c.in_ok-file.file.now c.in_ok-file.numbers.now c.in_ok-file.ensures.0 c.in_ok-file.ensures.1 c.in_ok-from.from.now c.in_ok-from.numbers.now c.in_ok-from.ensures.0 c.in_ok-from.ensures.1
    c.in_ok-count.count.now c.in_ok-count.lines.now c.in_ok-count.ensures.0 c.in_ok-count.ensures.1 c.in_err-number-3.ensures)
