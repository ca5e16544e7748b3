use Rattle.std.proofs.Common.{refl}
use Rattle.lexc_reader.specs.Answers.{known_of}
use Rattle.lexc_reader.proofs.Steps.{ends, stray}
use Rattle.lexc_reader.proofs.statements.read_found.Goals as goal

pub returns-in-Some-End : goal.returns-in-Some-End
returns-in-Some-End c = (refl, ends c.args.text.now c.args.found c.args.stage (known_of c.args.state.now) c.requires.found (rw (c.in-Some-End.is, c.in-Some-End.field-0-is) at c.keyword_of.ensures))

pub returns-in-Some-Symbols : goal.returns-in-Some-Symbols
returns-in-Some-Symbols c = c.begin_symbols.ensures (known_of c.args.state.now)

pub returns-in-Beginning : goal.returns-in-Beginning
returns-in-Beginning c =
    let found = rw c.in-Beginning.is at c.requires.found in
    let none = rw c.in-None.is at c.keyword_of.ensures in
    rw (c.no_statement.ensures, c.in-Beginning.is) (stray c.args.text.now c.args.found (known_of c.args.state.now) found none)
