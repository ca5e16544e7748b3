use Rattle.std.proofs.Common.{List, ap, reverse, subst, sym, ◌∙◌}
use Rattle.std.specs.List.{All, Contains}
use Rattle.fsm_base.specs.declared.letters.Pair.{Pair}
use Rattle.pair_test.specs.Marks.{AreAt}
use Rattle.pair_test.specs.Tests.{edge_before, placed_letters}
use Rattle.pair_test.proofs.Placed.{All-reverse}
use Rattle.pair_test.proofs.spelling.spelled_by.Goals as goal

pub places_of-requires-2 : goal.places_of-requires-2
places_of-requires-2 c =
    let has = Contains c.args.set.now.keys in
    let turned = c.deref.ensures.value ∙ c.reverse.ensures.items ∙ ap reverse c.in_ok-turned.ensures.items in
    subst (All has) (sym turned) (All-reverse has c.args.word.now c.requires)

pub returns-clause-places : goal.returns-clause-places
returns-clause-places c =
    let turned = c.deref.ensures.value ∙ c.reverse.ensures.items ∙ ap reverse c.in_ok-turned.ensures.items in
    record {
      forwards = c.in_ok-places_of.ensures;
      backwards = subst (λ (z : List Pair). AreAt (placed_letters c.args.set.now.keys) c.in_ok-places_of-2.field-0.items (edge_before z)) turned c.in_ok-places_of-2.ensures;
    }
