use Rattle.std.proofs.Common.{◌<◌, length, ap, sym, subst, ◌∙◌}
use Rattle.std.proofs.lemmas.Result.{IfOk-weaker}
use Rattle.fsa_explore.specs.Alike.{ByClass}
use Rattle.fsa_explore.specs.Explored.{IsExplored}
use Rattle.fsa_subset.specs.Sets.{Placed, IsStateSet, LeadsTo, IsFinalSet, IsBuiltByClass}
use Rattle.fsa_subset.proofs.Settling.{start_is}
use Rattle.fsa_subset.proofs.subsets.built_by_class.Goals as goal

pub settled-requires : goal.settled-requires
settled-requires c = λ e h. subst (λ n. e.to < n) (sym (c.in_ok-add.ensures.ok.grows.bound ∙ ap (λ m. m.bound) c.in_ok-states.ensures)) (c.requires.edges e h)

pub returns : goal.returns
returns c =
    let of_places = c.args.classes.now.of_places.items in
    let m : Placed = record { edges = c.args.rows; finals = c.args.finals.now; letters = length c.args.classes.now.firsts.items } in
    let start = c.in_ok-start.start.items in
    let is = start_is c.args.rows c.in_ok-states.states c.add.new.self (ap (λ k. k.found) c.in_ok-states.ensures) c.in_ok-add.ensures.ok start c.in_ok-start.ensures.set in
    IfOk-weaker c.explore_by_class.result (λ built. IsExplored (IsStateSet m) (ByClass (LeadsTo m) of_places) (IsFinalSet m) (length of_places) c.deref.result.now built.next.items built.finals.items)
    (λ built. IsBuiltByClass m of_places built.next.items built.finals.items)
    (λ built e. (start, is, subst (λ s. IsExplored (IsStateSet m) (ByClass (LeadsTo m) of_places) (IsFinalSet m) (length of_places) s built.next.items built.finals.items) c.deref.ensures.value e)) c.explore_by_class.ensures.built
