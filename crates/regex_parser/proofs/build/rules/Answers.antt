use Rattle.regex_parser.proofs.Terms.{term-rules}
use Rattle.regex_parser.proofs.build.rules.Goals as goal

pub returns : goal.returns
returns c = term-rules c.args.optional c.args.groups
