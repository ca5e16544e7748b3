use Rattle.std.proofs.lemmas.Str.{IsUtf8-nil}
use Rattle.att_text.proofs.Pieces.{line_alone, line_first, shorter_behind, utf8_behind}
use Rattle.att_text.proofs.fields.first_line.Goals as goal

pub returns-in-Some-clause-lines : goal.returns-in-Some-clause-lines
returns-in-Some-clause-lines c = line_first c.args.text.now c.in-Some.line.now c.in-Some.rest.now c.in-Some.ensures.0 c.in-Some.ensures.1

pub returns-in-Some-clause-shorter : goal.returns-in-Some-clause-shorter
returns-in-Some-clause-shorter c = shorter_behind c.args.text.now c.in-Some.line.now c.in-Some.rest.now 10 c.in-Some.ensures.1

pub returns-in-None-clause-lines : goal.returns-in-None-clause-lines
returns-in-None-clause-lines c = line_alone c.args.text.now c.requires c.in-None.ensures

pub returns-in-Some-clause-text : goal.returns-in-Some-clause-text
returns-in-Some-clause-text c = utf8_behind c.args.text.now c.in-Some.line.now c.in-Some.rest.now c.utf8.text c.in-Some.ensures.1

pub returns-in-None-clause-text : goal.returns-in-None-clause-text
returns-in-None-clause-text c = IsUtf8-nil
