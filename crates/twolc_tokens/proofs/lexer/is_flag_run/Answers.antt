use Rattle.std.proofs.Common.{subst, ◌∙◌, IsTrue}
use Rattle.regex_ast.specs.Flags.{IsFlag}
use Rattle.twolc_tokens.proofs.Flags.{flag_found}
use Rattle.twolc_tokens.proofs.lexer.is_flag_run.Goals as goal

pub returns : goal.returns
returns c =
    subst (λ text. (IsTrue c.is_some.result → IsFlag text) × (IsFlag text → IsTrue c.is_some.result)) (c.as_str.ensures.value ∙ c.in_ok-text.ensures)
    (flag_found c.as_str.result.now c.in_ok-flag.flag c.is_some.result c.in_ok-flag.ensures c.is_some.ensures)
