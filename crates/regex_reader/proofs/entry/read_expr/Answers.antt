use Rattle.regex_reader.proofs.Texts.{entry_no_token}
use Rattle.regex_reader.proofs.entry.read_expr.Goals as goal

pub returns-in-NoToken : goal.returns-in-NoToken
returns-in-NoToken c = entry_no_token c.args.text.now c.args.line c.in_ok-found.found.tokens.items c.in_ok-found.found.places.items c.in_ok-found.found.ending c.in-NoToken.at c.in_ok-found.ensures c.in-NoToken.is
