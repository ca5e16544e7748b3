use Rattle.std.proofs.lemmas.Result.{IfOk-weaker}
use Rattle.regex_ast.specs.Terms.{term}
use Rattle.network_expr.proofs.Meant.{relation_meant, symbols_meant}
use Rattle.network_expr.proofs.meaning.relation_of.Goals as goal

pub returns-clause-symbols : goal.returns-clause-symbols
returns-clause-symbols c = IfOk-weaker _ _ _ (λ m. symbols_meant c.args.alphabet.now c.in_ok-network_of.field-0 m c.in_ok-network_of.ensures.letters) c.into_pairs.ensures.symbols

pub returns-clause-relation : goal.returns-clause-relation
returns-clause-relation c = IfOk-weaker _ _ _ (λ m. relation_meant c.args.parts.now c.args.alphabet.now (term c.args.expr.now) c.in_ok-network_of.field-0 m c.in_ok-network_of.ensures.meaning) c.into_pairs.ensures.pairs
