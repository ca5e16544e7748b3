use Rattle.std.proofs.Common.{ap, ◌∙◌}
use Rattle.std.proofs.lemmas.Result.{IfOk-weaker}
use Rattle.expr_meaning.specs.Operators.{inner}
use Rattle.network_sets.specs.Split.{kept_table}
use Rattle.network_sets.proofs.Inside.{inner_distinct, inside_all, only_through}
use Rattle.network_sets.proofs.Splits.{kept_letter}
use Rattle.network_sets.proofs.Restrictions.{restricted_words}
use Rattle.network_sets.proofs.restricting.restrict.Goals as goal

pub of-requires-clause-distinct : goal.of-requires-clause-distinct
of-requires-clause-distinct c = rw (c.deref-3.ensures.value ∙ c.in_ok-letters.ensures) (inner_distinct c.args.symbols.now c.requires.distinct)

pub of-requires-clause-all : goal.of-requires-clause-all
of-requires-clause-all c x used =
    let rows = c.deref-2.ensures.value ∙ c.in_ok-rows.ensures ∙ ap kept_table (c.deref.ensures.value ∙ c.in_ok-every_split_letter.ensures) in
    let r = c.in_ok-words.ensures.letters x used in
    rw (c.deref-3.ensures.value ∙ c.in_ok-letters.ensures) (kept_letter c.args.symbols.now r.0 x (rw rows at r.1))

pub returns-clause-letters : goal.returns-clause-letters
returns-clause-letters c =
    let symbols = c.args.symbols.now in
    IfOk-weaker _ _ _ (λ m. only_through symbols c.in_ok-complement.field-0 (inner symbols) m (c.in_ok-complement.ensures.over ∙ c.in_ok-of.ensures.over ∙ c.deref-3.ensures.value ∙ c.in_ok-letters.ensures) (inside_all symbols)) c.to_fsa-2.ensures.letters

pub returns-clause-words : goal.returns-clause-words
returns-clause-words c =
    let rows = c.deref-2.ensures.value ∙ c.in_ok-rows.ensures ∙ ap kept_table (c.deref.ensures.value ∙ c.in_ok-every_split_letter.ensures) in
    IfOk-weaker _ _ _ (λ m. restricted_words c.args.symbols.now c.args.centre.now c.in_ok-places.field-0 c.args.allowed.now c.in_ok-wrong.wrong c.in_ok-words.words c.in_ok-of.field-0 c.in_ok-complement.field-0 m
    c.in_ok-places.ensures.words c.in_ok-wrong.ensures.words c.in_ok-wrong.ensures.each (rw rows at c.in_ok-words.ensures.language) (rw (c.deref-3.ensures.value ∙ c.in_ok-letters.ensures) at c.in_ok-of.ensures) c.in_ok-complement.ensures)
    c.to_fsa-2.ensures.language
