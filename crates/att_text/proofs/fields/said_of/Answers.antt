use Rattle.att_text.specs.Lines.{fields_of}
use Rattle.att_text.proofs.Lines.{seen_symbols}
use Rattle.att_text.proofs.fields.said_of.Goals as goal

pub returns-clause-symbols : goal.returns-clause-symbols
returns-clause-symbols c = seen_symbols (fields_of c.args.line.now) c.said_by_line.result c.said_by_line.ensures
