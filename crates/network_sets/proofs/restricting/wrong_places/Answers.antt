use Rattle.std.proofs.Common.{◌∙◌}
use Rattle.std.proofs.lemmas.Result.{IfOk-weaker}
use Rattle.network_sets.specs.Split.{split_letters}
use Rattle.network_sets.proofs.Splits.{split_distinct}
use Rattle.network_sets.proofs.Restrictions.{each_place, wrong_words}
use Rattle.network_sets.proofs.restricting.wrong_places.Goals as goal

pub of-requires-clause-distinct : goal.of-requires-clause-distinct
of-requires-clause-distinct c = rw (c.deref.ensures.value ∙ c.in_ok-letters.ensures) (split_distinct c.args.symbols.now c.requires.distinct)

pub of-requires-clause-all : goal.of-requires-clause-all
of-requires-clause-all c x used = rw (c.deref.ensures.value ∙ c.in_ok-letters.ensures) (c.requires.places x used)

pub of-requires-2-clause-all : goal.of-requires-2-clause-all
of-requires-2-clause-all c x used = rw (c.deref-2.ensures.value ∙ c.in_ok-letters.ensures) (c.requires.allowed x used)

pub returns-clause-words : goal.returns-clause-words
returns-clause-words c =
    let places = rw (c.deref.ensures.value ∙ c.in_ok-letters.ensures) at c.in_ok-places.ensures in
    let allowed = rw (c.deref-2.ensures.value ∙ c.in_ok-letters.ensures) at c.in_ok-allowed.ensures in
    IfOk-weaker _ _ _ (λ m. wrong_words (split_letters c.args.symbols.now) c.args.places.now c.args.allowed.now m c.in_ok-places.places c.in_ok-allowed.allowed c.in_ok-minus.field-0 places allowed c.in_ok-minus.ensures) c.to_fsa-2.ensures.language

pub returns-clause-each : goal.returns-clause-each
returns-clause-each c =
    let places = rw (c.deref.ensures.value ∙ c.in_ok-letters.ensures) at c.in_ok-places.ensures in
    let allowed = rw (c.deref-2.ensures.value ∙ c.in_ok-letters.ensures) at c.in_ok-allowed.ensures in
    IfOk-weaker _ _ _ (λ m. each_place (split_letters c.args.symbols.now) c.args.places.now c.args.allowed.now m c.in_ok-places.places c.in_ok-allowed.allowed c.in_ok-minus.field-0 places allowed c.in_ok-minus.ensures) c.to_fsa-2.ensures.language
