use Rattle.twolc_reader.proofs.Texts.{text_says, text_lines}
use Rattle.twolc_reader.proofs.reader.read_twolc.Goals as goal

pub returns-clause-says : goal.returns-clause-says
returns-clause-says c =
    text_says c.args.text.now c.in_ok-found.found.tokens.items c.in_ok-found.found.ending c.in_ok-found.ensures c.grammar_of.result (rw c.deref.ensures.value at c.grammar_of.ensures.says)

pub returns-clause-lines : goal.returns-clause-lines
returns-clause-lines c =
    text_lines c.args.text.now c.in_ok-found.found.tokens.items c.in_ok-found.found.ending c.in_ok-found.ensures c.grammar_of.result (rw c.deref.ensures.value at c.grammar_of.ensures.lines)
