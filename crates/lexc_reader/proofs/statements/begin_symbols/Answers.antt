use Rattle.lexc_reader.proofs.Steps.{begins, symbols_too_late}
use Rattle.lexc_reader.proofs.statements.begin_symbols.Goals as goal

pub returns-in-Beginning : goal.returns-in-Beginning
returns-in-Beginning c = λ known. rw c.in-Beginning.is (begins c.args.text.now c.args.found.now known (rw c.in-Beginning.is at c.requires.found) c.requires.word)

pub returns-in_default : goal.returns-in_default
returns-in_default c = λ known. rw c.no_statement.ensures (symbols_too_late c.args.text.now c.args.found.now c.args.stage known c.requires.found c.in_default.not-Beginning c.requires.word)
