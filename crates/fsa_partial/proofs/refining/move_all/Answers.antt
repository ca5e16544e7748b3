use Rattle.std.proofs.Common.{◌≡◌, ◌<◌, ◌+◌, ◌++◌, [], ◌∷◌, ℕ, List, Some, length, set, get_or, take, sym, subst, arith}
use Rattle.std.specs.List.{slice_get}
use Rattle.std.proofs.lemmas.List.Elements.{Contains-get_or}
use Rattle.std.proofs.lemmas.Option.{slice_get-get_or}
use Rattle.word_relations.proofs.Places.{take_more-slice_get}
use Rattle.fsa_partial.specs.Splitting.{IsMoved}
use Rattle.fsa_partial.specs.declared.grouping.Arc.{Arc}
use Rattle.fsa_partial.proofs.Splits.{moved_more, long_front}
use Rattle.fsa_partial.proofs.refining.move_all.Goals as goal

pub index_mut-requires : goal.index_mut-requires
index_mut-requires c =
    let arcs = c.args.arcs.now in
    let i = c.loop-place.place in
    let d : Arc = record { from = 0; to = 0 } in
    let b = (c.requires.below (get_or arcs i d) (Contains-get_or arcs i d c.loop-place-test.true)).0 in
    let l = c.loop-place.classes.ok.0 in
    let n = c.loop-place.invariant.count in
    omega arith

pub loop-place-preserved : goal.loop-place-preserved
loop-place-preserved c =
    let arcs = c.args.arcs.now in
    let numbers = c.args.numbers.now in
    let old = c.args.classes.now.items in
    let i = c.loop-place.place in
    let d : Arc = record { from = 0; to = 0 } in
    let a = get_or arcs i d in
    let inside = c.loop-place-test.true in
    let at : slice_get arcs i ≡ Some a = slice_get-get_or arcs i d inside in
    let front : take (i + 1) arcs ≡ take i arcs ++ a ∷ [] = take_more-slice_get arcs i a at in
    let below = (c.requires.below a (Contains-get_or arcs i d inside)).0 in
    let there : i < length numbers = let n = c.requires.count in omega arith in
    let new : List ℕ = set c.loop-place.classes.items a.from (get_or numbers i 0) in
    subst (λ xs. IsMoved xs numbers old new) (sym front)
    (moved_more numbers old (take i arcs) c.loop-place.classes.items a i (get_or numbers i 0) (long_front arcs i inside) below (slice_get-get_or numbers i 0 there) c.loop-place.invariant)
