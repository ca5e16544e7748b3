use Rattle.regex_tokens.proofs.Flags.{flags_pass}
use Rattle.regex_tokens.proofs.flag.is_flag.Goals as goal

pub returns-clause-flag : goal.returns-clause-flag
returns-clause-flag c = rw c.passes.ensures (flags_pass c.args.text.now)
