use Rattle.std.proofs.Common.{sym, ◌∙◌}
use Rattle.regex_ast.specs.Terms.{term}
use Rattle.network_centres.specs.Centres.{terms_seen}
use Rattle.network_build.proofs.Ones.{any_uses, next_among}
use Rattle.network_build.proofs.network.one_uses_alphabet.Goals as goal

pub returns-then-uses_alphabet : goal.returns-then-uses_alphabet
returns-then-uses_alphabet c =
    let among = next_among c.args.expressions.now c.expressions.expr-index c.expr-item.result c.expressions-test.true c.expr-item.is in
    sym (any_uses (terms_seen c.args.expressions.now) (term c.expr-item.result.now) among (sym c.uses_alphabet.ensures ∙ c.if-uses_alphabet.true))
