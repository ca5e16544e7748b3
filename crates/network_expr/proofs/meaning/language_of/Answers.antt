use Rattle.std.proofs.lemmas.Result.{IfOk-weaker}
use Rattle.regex_ast.specs.Terms.{term}
use Rattle.network_expr.proofs.Meant.{language_meant}
use Rattle.network_expr.proofs.meaning.language_of.Goals as goal

pub returns : goal.returns
returns c = IfOk-weaker _ _ _ (λ lang. language_meant c.args.parts.now c.args.alphabet.now (term c.args.expr.now) c.in_ok-words_of.field-0 lang c.in_ok-words_of.ensures.words) c.language-2.ensures
