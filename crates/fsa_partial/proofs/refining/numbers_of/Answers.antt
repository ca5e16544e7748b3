use Rattle.std.proofs.Common.{◌≡◌, ◌+◌, ◌%◌, ◌^◌, refl, ◌++◌, [], ◌∷◌, Some, get_or, take, sym, subst, arith}
use Rattle.std.specs.List.{slice_get}
use Rattle.std.proofs.lemmas.List.{take_all}
use Rattle.std.proofs.lemmas.List.Elements.{Contains-get_or}
use Rattle.std.proofs.lemmas.Option.{slice_get-get_or}
use Rattle.word_relations.proofs.Places.{take_more-slice_get}
use Rattle.fsa_partial.specs.declared.grouping.Arc.{Arc}
use Rattle.fsa_partial.proofs.Splits.{AreNumbered, numbered_none, numbered_more, numbered_all}
use Rattle.fsa_partial.proofs.refining.numbers_of.Goals as goal

pub pair_of-requires-clause-from : goal.pair_of-requires-clause-from
pair_of-requires-clause-from c =
    let d : Arc = record { from = 0; to = 0 } in
    (c.requires.below (get_or c.args.arcs.now c.loop-arc.arc-index d) (Contains-get_or c.args.arcs.now c.loop-arc.arc-index d c.loop-arc-test.true)).0

pub pair_of-requires-clause-to : goal.pair_of-requires-clause-to
pair_of-requires-clause-to c =
    let d : Arc = record { from = 0; to = 0 } in
    let n = c.requires.count in
    let b = (c.requires.below (get_or c.args.arcs.now c.loop-arc.arc-index d) (Contains-get_or c.args.arcs.now c.loop-arc.arc-index d c.loop-arc-test.true)).1 in
    omega arith

pub loop-arc-preserved : goal.loop-arc-preserved
loop-arc-preserved c =
    let classes = c.args.classes.now in
    let targets = c.args.targets.now in
    let arcs = c.args.arcs.now in
    let first = c.args.first in
    let i = c.loop-arc.arc-index in
    let d : Arc = record { from = 0; to = 0 } in
    let a = get_or arcs i d in
    let at : slice_get arcs i ≡ Some a = slice_get-get_or arcs i d c.loop-arc-test.true in
    let front : take (i + 1) arcs ≡ take i arcs ++ a ∷ [] = take_more-slice_get arcs i a at in
    let new = c.number_of.new.self in
    let more = c.push.new.self.items in
    subst (λ xs. AreNumbered classes targets first xs new more) (sym front)
    (numbered_more classes targets first (take i arcs) c.loop-arc.pairs new c.loop-arc.numbers.items more a c.pair_of.result c.in_ok-number.number ((first + c.in_ok-number.number) % 2 ^ 64) c.loop-arc.invariant
    c.in_ok-number.ensures.kept c.in_ok-number.ensures.once c.in_ok-number.ensures.number c.pair_of.ensures.from c.pair_of.ensures.to refl c.in_ok-push.ensures.items)

pub returns : goal.returns
returns c =
    let arcs = c.args.arcs.now in
    numbered_all c.args.classes.now c.args.targets.now c.args.first arcs c.loop-arc.pairs c.loop-arc.numbers.items
    (subst (λ xs. AreNumbered c.args.classes.now c.args.targets.now c.args.first xs c.loop-arc.pairs c.loop-arc.numbers.items) (take_all c.loop-arc.arc-index arcs c.loop-arc-test.false) c.loop-arc.invariant)

pub loop-arc-init : goal.loop-arc-init
loop-arc-init c = rw c.in_ok-numbers.ensures.items (numbered_none c.args.classes.now c.args.targets.now c.args.first c.args.arcs.now c.args.pairs.now c.requires.empty)
