use Rattle.std.proofs.Common.{◌≡◌, List, ℕ, [], ◌∷◌, ◌++◌, Some, subst, sym, ap, arith, ◌∙◌}
use Rattle.std.specs.List.{slice_get}
use Rattle.std.proofs.lemmas.List.Sorted.{Contains-permutation, IsPermutation-sym}
use Rattle.std.proofs.lemmas.Option.{get_or_from_slice_get, slice_get_within}
use Rattle.fsa_explore.proofs.TargetsLemmas.{AreWithin-permutation}
use Rattle.lookup.specs.Walks.{IsFront, front_at}
use Rattle.lookup.proofs.Moves.{learnt_none, more_at, more_within}
use Rattle.lookup.proofs.Trails.{trail_first}
use Rattle.lookup.proofs.walk.Walk.new.Goals as goal

pub first_front-requires-clause-within : goal.first_front-requires-clause-within
first_front-requires-clause-within c =
    let bound = ap (λ m. m.bound) c.in_ok-marked.ensures in
    rw bound (AreWithin-permutation c.args.count c.args.edges.now c.in_ok-rows.rows c.in_ok-rows.ensures c.requires.within)

pub learn-requires-clause-within : goal.learn-requires-clause-within
learn-requires-clause-within c =
    let bound = c.in_ok-front.ensures.bound ∙ ap (λ m. m.bound) c.in_ok-marked.ensures in
    rw bound (AreWithin-permutation c.args.count c.args.edges.now c.in_ok-rows.rows c.in_ok-rows.ensures c.requires.within)

pub learn-requires-clause-number : goal.learn-requires-clause-number
learn-requires-clause-number c = slice_get_within _ _ _ c.in_ok-start.ensures.number

pub learn-requires-clause-learnt : goal.learn-requires-clause-learnt
learn-requires-clause-learnt c = rw c.new-leaving.ensures.items (learnt_none c.in_ok-rows.rows c.number_of.new.self)

pub returns-clause-rows : goal.returns-clause-rows
returns-clause-rows c = λ e. (
  Contains-permutation c.in_ok-rows.rows c.args.edges.now e (IsPermutation-sym c.args.edges.now c.in_ok-rows.rows c.in_ok-rows.ensures),
  Contains-permutation c.args.edges.now c.in_ok-rows.rows e c.in_ok-rows.ensures,
)

pub returns-clause-walk : goal.returns-clause-walk
returns-clause-walk c =
    let rows = c.in_ok-rows.rows in
    let old = c.number_of.new.self in
    let sets = c.learn.new.sets in
    let start = c.in_ok-start.start in
    let bound = c.in_ok-learn.ensures.bound ∙ c.in_ok-front.ensures.bound ∙ ap (λ m. m.bound) c.in_ok-marked.ensures in
    let trail = c.in_ok-push.ensures.items ∙ ap (λ (ns : List ℕ). ns ++ start ∷ []) c.new-trail.ensures.items in
    let none = c.new-2.ensures.items in
    let inside = slice_get_within old start c.deref.result.now c.in_ok-start.ensures.number in
    let front : front_at sets start ≡ c.in_ok-front.front.items =
    more_at old sets start c.in_ok-learn.ensures.more inside ∙ get_or_from_slice_get old start c.deref.result.now [] c.in_ok-start.ensures.number ∙ c.deref.ensures.value in
    record {
      trail = rw (trail, none) (trail_first rows sets c.learn.new.leaving.items start (more_within old sets start c.in_ok-learn.ensures.more inside) c.in_ok-learn.ensures.known
          (subst (λ (f : List ℕ). IsFront rows [] f) (sym front) c.in_ok-front.ensures.front));
      learnt = c.in_ok-learn.ensures.learnt;
      within = rw bound (AreWithin-permutation c.args.count c.args.edges.now rows c.in_ok-rows.ensures c.requires.within);
      bytes = λ k byte h. absurd (let l = slice_get_within [] k byte (subst (λ (t : List ℕ). slice_get t k ≡ Some byte) none h) in omega arith);
      floor_within = omega arith;
    }
