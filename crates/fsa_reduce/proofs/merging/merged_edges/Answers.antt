use Rattle.std.proofs.Common.{ℕ, ◌↔◌, subst}
use Rattle.std.specs.List.{Contains}
use Rattle.std.proofs.lemmas.List.Filters.{dedup_is}
use Rattle.std.proofs.lemmas.List.Kept.{Contains-dedup, Contains-from_dedup}
use Rattle.std.proofs.lemmas.List.Sorted.{Contains-permutation, IsPermutation-sym}
use Rattle.fsa.specs.declared.automaton.Edge.{Edge}
use Rattle.fsa_reduce.specs.Merging.{AreOfClasses, AreOwn}
use Rattle.fsa_reduce.proofs.MergedLanguage.{IsMovedOf}
use Rattle.fsa_reduce.proofs.Owned.{own_enough}
use Rattle.fsa_reduce.proofs.SameEdges.{edge_eq, edges_same, edge_eq_equiv}
use Rattle.fsa_reduce.proofs.merging.merged_edges.Goals as goal

pub states_of-requires : goal.states_of-requires
states_of-requires c = c.requires.alike.1.within

pub moved_edges-requires : goal.moved_edges-requires
moved_edges-requires c = λ e h. c.requires.within e ((c.in_ok-own.ensures e).0 (subst (λ es. Contains es e) c.deref-2.ensures.value h)).0

pub returns : goal.returns
returns c =
    let is = dedup_is edge_eq c.sort_unstable.new.self.items c.dedup.new.self.items c.dedup.ensures.filtered in
    let moved = c.sort_unstable.ensures.permutation in
    let edges = c.args.edges.now in
    let classes = c.args.classes.now in
    let of_classes : AreOfClasses classes c.in_ok-states.states.items = c.in_ok-states.ensures in
    let own : AreOwn classes c.in_ok-states.states.items edges c.in_ok-own.own.items = rw c.deref.ensures.value at c.in_ok-own.ensures in
    let whole : (f : Edge ℕ) → Contains c.in_ok-merged.merged.items f ↔ IsMovedOf classes edges f =
    own_enough c.requires.alike.0 edges c.in_ok-own.own.items c.in_ok-merged.merged.items classes c.in_ok-states.states.items c.args.count c.requires.alike.1 of_classes own (rw c.deref-2.ensures.value at c.in_ok-merged.ensures) in
    λ f. (
      λ h. (whole f).0 (Contains-permutation _ _ f (IsPermutation-sym _ _ moved) (Contains-from_dedup edge_eq _ f (rw is at h))),
      λ r. rw is (Contains-dedup edge_eq_equiv edges_same _ f (Contains-permutation _ _ f moved ((whole f).1 r))),
    )
