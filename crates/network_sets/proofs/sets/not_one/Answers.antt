use Rattle.std.proofs.Common.{◌∙◌}
use Rattle.std.proofs.lemmas.Result.{IfOk-weaker}
use Rattle.fsa.specs.Language.{Accepts}
use Rattle.expr_meaning.specs.Operators.{inner}
use Rattle.network_sets.proofs.Inside.{only_through, inside_all, not_one_words}
use Rattle.network_sets.proofs.sets.not_one.Goals as goal

pub returns-clause-letters : goal.returns-clause-letters
returns-clause-letters c =
    let symbols = c.args.symbols.now in
    IfOk-weaker _ _ _ (λ m used. only_through symbols c.in_ok-not_one.field-0 (inner symbols) m (c.in_ok-not_one.ensures.over ∙ c.in_ok-operand.ensures.over) (inside_all symbols) used) c.to_fsa-2.ensures.letters

pub returns-clause-words : goal.returns-clause-words
returns-clause-words c =
    IfOk-weaker _ _ _ (λ m accepts. not_one_words c.args.symbols.now (Accepts c.args.a.now) c.in_ok-operand.operand c.in_ok-not_one.field-0 m c.in_ok-operand.ensures accepts c.in_ok-not_one.ensures) c.to_fsa-2.ensures.language
