use Rattle.std.proofs.Common.{arith}
use Rattle.edit_script.proofs.Lines.{text_read}
use Rattle.edit_script.proofs.words.text_of.Goals as goal

pub returns : goal.returns
returns c =
    rw c.ok.ensures.value (text_read c.args.line.now c.without_return.result.now c.from_utf8.result _ (omega (arith, c.if-line-gt-MOST_LINE.false)) c.without_return.ensures c.from_utf8.ensures.cases)
