use Rattle.std.proofs.Common.{◌≡◌, ◌<◌, length, get_or, subst, ap, ◌∙◌}
use Rattle.std.proofs.lemmas.Result.{IfOk-weaker}
use Rattle.fsa_explore.specs.Alike.{AreBothAlike}
use Rattle.fsa_explore.proofs.Grouping.{classes_within}
use Rattle.replace_rules.specs.Alike.{AreFirstsIn}
use Rattle.replace_directed.specs.Alike.{AreFirstsOf}
use Rattle.replace_directed.proofs.ByFirsts.{rule_firsts}
use Rattle.replace_directed.proofs.alike.firsts_of.Goals as goal

pub firsts_in-requires-clause-classes : goal.firsts_in-requires-clause-classes
firsts_in-requires-clause-classes c =
    let numbers = c.deref.result.now in
    rw (c.deref-3.ensures.value, c.deref-4.ensures.value) (classes_within (AreBothAlike numbers c.deref-2.result.now) (length numbers) c.in_ok-classes.classes.of_places.items c.in_ok-classes.classes.firsts.items c.in_ok-classes.ensures)

pub firsts_in-requires-clause-places : goal.firsts_in-requires-clause-places
firsts_in-requires-clause-places c =
    let firsts = c.in_ok-classes.classes.firsts.items in
    let count : length c.deref.result.now ≡ length c.args.syms.now = ap length c.deref.ensures.value ∙ c.in_ok-numbers.ensures.count in
    rw c.deref-4.ensures.value (λ k d l. subst (λ n. get_or firsts k d < n) count (c.in_ok-classes.ensures.within k d l))

pub returns : goal.returns
returns c =
    let syms = c.args.syms.now in
    let maps = c.args.maps.now in
    let contexts = c.args.contexts.now in
    let numbers = c.in_ok-numbers.numbers.items in
    let classes = c.in_ok-classes.classes in
    let are = rw (c.deref.ensures.value, c.deref-2.ensures.value) at c.in_ok-classes.ensures in
    IfOk-weaker c.firsts_in.result (λ found. AreFirstsIn syms c.deref-4.result.now c.deref-3.result.now found.items) (λ found. AreFirstsOf syms maps contexts found.items)
    (λ found in_classes. rule_firsts syms maps contexts numbers classes.of_places.items classes.firsts.items found.items c.in_ok-numbers.ensures are (rw (c.deref-4.ensures.value, c.deref-3.ensures.value) at in_classes)) c.firsts_in.ensures
