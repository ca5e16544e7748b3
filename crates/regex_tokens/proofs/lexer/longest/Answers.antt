use Rattle.std.proofs.Common.{length, sym, ap, ◌∙◌}
use Rattle.regex_tokens.proofs.Texts.{nothing_empty}
use Rattle.regex_tokens.proofs.lexer.longest.Goals as goal

pub returns-in-None : goal.returns-in-None
returns-in-None c = nothing_empty c.args.text.now (sym (ap length c.as_bytes.ensures.value) ∙ c.in-None.ensures.cases)
