use Rattle.std.proofs.Common.{length, subst}
use Rattle.std.proofs.lemmas.Result.{IfOk-weaker}
use Rattle.fsa_explore.specs.Alike.{GoAlike}
use Rattle.fsa_explore.proofs.Grouping.{classes_within}
use Rattle.fsa_subset.specs.Classes.{IsByClass}
use Rattle.fsa_subset.specs.Sets.{Placed, IsBuiltByClass, IsSubsetBuilt}
use Rattle.fsa_subset.proofs.Classing.{built_same, classed_within}
use Rattle.fsa_subset.proofs.subsets.built_sets.Goals as goal

pub built_by_class-requires-clause-edges : goal.built_by_class-requires-clause-edges
built_by_class-requires-clause-edges c =
    classed_within c.args.edges.now c.in_ok-classes.classes.firsts.items c.in_ok-rows.rows (length c.args.finals.now)
    (subst (λ fs. IsByClass c.args.edges.now fs c.in_ok-rows.rows) c.deref.ensures.value c.in_ok-rows.ensures) c.requires.edges

pub built_by_class-requires-clause-within : goal.built_by_class-requires-clause-within
built_by_class-requires-clause-within c =
    classes_within (GoAlike c.in_ok-by_letter.by_letter) c.args.letters c.in_ok-classes.classes.of_places.items c.in_ok-classes.classes.firsts.items c.in_ok-classes.ensures

pub returns : goal.returns
returns c =
    let edges = c.args.edges.now in
    let finals = c.args.finals.now in
    let classes = c.in_ok-classes.classes in
    let rows = c.in_ok-rows.rows in
    let small : Placed = record { edges = rows; finals = finals; letters = length classes.firsts.items } in
    let whole : Placed = record { edges = edges; finals = finals; letters = c.args.letters } in
    IfOk-weaker c.built_by_class.result (λ built. IsBuiltByClass small classes.of_places.items built.next.items built.finals.items)
    (λ built. IsSubsetBuilt whole built.next.items built.finals.items)
    (λ built. built_same edges finals c.args.letters c.in_ok-by_letter.by_letter c.in_ok-by_letter.ensures classes.of_places.items classes.firsts.items c.in_ok-classes.ensures rows
    (subst (λ fs. IsByClass edges fs rows) c.deref.ensures.value c.in_ok-rows.ensures) built.next.items built.finals.items) c.built_by_class.ensures
