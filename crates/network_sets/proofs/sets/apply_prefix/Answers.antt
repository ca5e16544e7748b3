use Rattle.std.proofs.Common.{◌↔◌, List, IfOk, sym, subst, ◌∙◌}
use Rattle.std.proofs.lemmas.Result.{IfOk-weaker}
use Rattle.fsm_base.specs.declared.letters.Bound.{Bound}
use Rattle.fsm_base.specs.declared.letters.Sym.{Sym}
use Rattle.fsa.specs.Language.{Accepts}
use Rattle.expr_meaning.specs.Operators.{inner, IsPrefixed}
use Rattle.network_sets.proofs.Inside.{only_through, inside_all, negated_words, holding_words}
use Rattle.network_sets.proofs.sets.apply_prefix.Goals as goal

pub returns-in-Not-clause-letters : goal.returns-in-Not-clause-letters
returns-in-Not-clause-letters c =
    let symbols = c.args.symbols.now in
    IfOk-weaker _ _ _ (λ m. only_through symbols c.in_ok-complement-in-Not.field-0 (inner symbols) m (c.in_ok-complement-in-Not.ensures.over ∙ c.in_ok-operand.ensures.over) (inside_all symbols)) c.to_fsa-in-Not.ensures.letters

pub returns-in-Not-clause-words : goal.returns-in-Not-clause-words
returns-in-Not-clause-words c =
    subst (λ p. IfOk c.to_fsa-in-Not.result (λ m. (w : List (Bound Sym)) → Accepts m w ↔ IsPrefixed c.args.symbols.now p (Accepts c.args.a.now) w)) (sym c.in-Not.is)
    (IfOk-weaker _ _ _ (λ m accepts. negated_words c.args.symbols.now (Accepts c.args.a.now) c.in_ok-operand.operand c.in_ok-complement-in-Not.field-0 m c.in_ok-operand.ensures accepts c.in_ok-complement-in-Not.ensures) c.to_fsa-in-Not.ensures.language)

pub returns-clause-letters : goal.returns-clause-letters
returns-clause-letters c =
    let symbols = c.args.symbols.now in
    IfOk-weaker _ _ _ (λ m. only_through symbols c.in_ok-contains-in-Contains.field-0 (inner symbols) m (c.in_ok-contains-in-Contains.ensures.over ∙ c.in_ok-operand.ensures.over) (inside_all symbols)) c.to_fsa-in-Contains-2.ensures.letters

pub returns-clause-words : goal.returns-clause-words
returns-clause-words c =
    subst (λ p. IfOk c.to_fsa-in-Contains-2.result (λ m. (w : List (Bound Sym)) → Accepts m w ↔ IsPrefixed c.args.symbols.now p (Accepts c.args.a.now) w)) (sym c.in-Contains.is)
    (IfOk-weaker _ _ _ (λ m accepts. holding_words c.args.symbols.now (Accepts c.args.a.now) c.in_ok-operand.operand c.in_ok-contains-in-Contains.field-0 m c.in_ok-operand.ensures accepts c.in_ok-contains-in-Contains.ensures) c.to_fsa-in-Contains-2.ensures.language)
