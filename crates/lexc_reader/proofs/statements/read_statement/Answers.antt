use Rattle.std.proofs.Common.{◌+◌}
use Rattle.regex_tokens.specs.Cuts.{newlines}
use Rattle.lexc_reader.specs.Answers.{known_of}
use Rattle.lexc_reader.proofs.Steps.{none_left, none_next}
use Rattle.lexc_reader.proofs.statements.read_statement.Goals as goal

pub returns-in-End : goal.returns-in-End
returns-in-End c =
    let none = rw c.in-End.is at c.in_ok-scan.ensures in
    none_left (c.args.line + newlines c.args.text.now) c.args.stage (known_of c.args.state.now) c.args.text.now none

pub returns-in-NoToken : goal.returns-in-NoToken
returns-in-NoToken c =
    let next = rw (c.in-NoToken.is, c.opens.ensures) at c.in_ok-scan.ensures in
    none_next c.args.line c.in-NoToken.at c.args.stage (known_of c.args.state.now) c.args.text.now next
