use Rattle.std.proofs.Common.{◌∙◌}
use Rattle.std.proofs.lemmas.Result.{IfOk-weaker}
use Rattle.two_level.proofs.MarkedStrings.{marked_distinct}
use Rattle.two_level.proofs.ContextPlaces.{places_holding}
use Rattle.two_level.proofs.places.places_in.Goals as goal

pub of-requires-clause-distinct : goal.of-requires-clause-distinct
of-requires-clause-distinct c = rw (c.deref.ensures.value ∙ c.in_ok-letters.ensures) (marked_distinct c.args.pairs.now c.requires.distinct)

pub returns : goal.returns
returns c =
    let holding = rw (c.deref.ensures.value ∙ c.in_ok-letters.ensures) at c.in_ok-holding.ensures in
    IfOk-weaker _ _ _ (λ made. places_holding c.args.pairs.now c.args.contexts.now c.in_ok-in_contexts.field-0 c.args.every.now c.in_ok-holding.holding made c.in_ok-in_contexts.ensures.words c.requires.every holding) c.both.ensures

pub of-requires-clause-all : goal.of-requires-clause-all
of-requires-clause-all c x used = rw (c.deref.ensures.value ∙ c.in_ok-letters.ensures) (c.in_ok-in_contexts.ensures.letters x used)
