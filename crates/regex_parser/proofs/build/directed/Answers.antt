use Rattle.regex_parser.proofs.Terms.{term-directed}
use Rattle.regex_parser.proofs.build.directed.Goals as goal

pub returns : goal.returns
returns c = term-directed c.args.way c.args.maps c.args.contexts
