use Rattle.std.proofs.Common.{length, refl, ap, subst, ◌∙◌}
use Rattle.fsa_explore.specs.Alike.{AreBothAlike, ByClass}
use Rattle.fsa_explore.specs.Explored.{IsExplored}
use Rattle.fsa_explore.proofs.Grouping.{classes_within}
use Rattle.fsa_product.specs.Pairs.{IsPair, LeadsAt, IsFinalPair}
use Rattle.fsa_product.proofs.Combining.{pairs_by_class, product_language}
use Rattle.fsa_product.proofs.products.product.Goals as goal

pub explore_by_class-requires : goal.explore_by_class-requires
explore_by_class-requires g c =
    let of_a = c.deref.result.now in
    let of_b = c.deref-2.result.now in
    record {
      start = record { two = refl; first = c.states.ensures.complete.start; second = c.states-2.ensures.complete.start };
      count = ap length c.deref-3.ensures.value;
      within = classes_within (AreBothAlike of_a of_b) (length of_a) c.in_ok-classes.classes.of_places.items c.in_ok-classes.classes.firsts.items c.in_ok-classes.ensures;
    }

pub returns-clause-language : goal.returns-clause-language
returns-clause-language g c =
    let a = c.args.a.now in
    let b = c.args.b.now in
    let o = c.args.operation in
    let in_a = c.in_ok-in_first.in_first in
    let in_b = c.in_ok-in_second.in_second in
    let classes = c.in_ok-classes.classes in
    let of_places = classes.of_places.items in
    let next = c.in_ok-built.built.next.items in
    let finals = c.in_ok-built.built.finals.items in
    let built = subst (λ ps. IsExplored (IsPair a b) (ByClass (LeadsAt a b ps) of_places) (IsFinalPair o a b) (length of_places) _ next finals) c.deref-3.ensures.value c.in_ok-built.ensures.built in
    let by_letters = pairs_by_class o a b in_a.of_places.items in_a.firsts.items in_b.of_places.items in_b.firsts.items of_places classes.firsts.items c.requires
    c.in_ok-in_first.ensures c.in_ok-in_second.ensures (rw (c.deref.ensures.value, c.deref-2.ensures.value) at c.in_ok-classes.ensures) _ next finals built in
    product_language o a b c.states.ensures.complete c.states-2.ensures.complete c.requires
    _ next finals refl by_letters c.of.result c.in_ok-letters.letters.items (c.in_ok-letters.ensures.items ∙ c.letters.ensures.letters) c.of.ensures
