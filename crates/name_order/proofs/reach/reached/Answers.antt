use Rattle.std.proofs.Common.{◌<◌, ◌≤◌, ℕ, List, All, length, sym, subst, ◌∙◌, arith, rules}
use Rattle.std.specs.List.{Contains}
use Rattle.name_order.specs.Found.{Adds}
use Rattle.name_order.proofs.References.{count_of}
use Rattle.name_order.proofs.Reaching.{below_marks, growing_first, growing_more, place_within, reached_is}
use Rattle.name_order.proofs.reach.reached.Goals as goal

pub add_all-requires-clause-within : goal.add_all-requires-clause-within
add_all-requires-clause-within c =
    let n = length c.in_ok-found.found.marks.items in
    subst (λ (xs : List ℕ). All (λ other. other < n) xs) (sym c.deref.ensures.value)
    (below_marks c.args.references.now c.requires.whole c.args.start c.index-references-start.result n c.requires.within c.index-references-start.is c.in_ok-found.ensures.count)

pub numbers-init : goal.numbers-init
numbers-init c =
    growing_first c.args.references.now c.requires.whole c.args.start c.index-references-start.result c.in_ok-found.found c.add_all.new.self c.requires.within c.index-references-start.is c.in_ok-found.ensures.count c.in_ok-found.ensures.places
    (subst (λ (xs : List ℕ). Adds c.in_ok-found.found c.add_all.new.self (Contains xs)) c.deref.ensures.value c.in_ok-add_all.ensures)

pub bounds-references-place : goal.bounds-references-place
bounds-references-place c =
    let inside : c.numbers.number < length c.numbers.found.places.items = omega (arith, c.numbers-test.true, c.len.ensures, c.numbers.found.places.ok.0) in
    place_within c.args.references.now c.requires.whole c.args.start c.numbers.number c.numbers.found c.numbers.found c.index-references-start.result c.index-place.result.now c.numbers.invariant inside c.index-place.ensures

pub add_all-requires-in-numbers-clause-within : goal.add_all-requires-in-numbers-clause-within
add_all-requires-in-numbers-clause-within c =
    let inside : c.numbers.number < length c.numbers.found.places.items = omega (arith, c.numbers-test.true, c.len.ensures, c.numbers.found.places.ok.0) in
    let within = place_within c.args.references.now c.requires.whole c.args.start c.numbers.number c.numbers.found c.numbers.found c.index-references-start.result c.index-place.result.now c.numbers.invariant inside c.index-place.ensures in
    let n = length c.numbers.found.marks.items in
    subst (λ (xs : List ℕ). All (λ other. other < n) xs) (sym c.deref-in-numbers.ensures.value)
    (below_marks c.args.references.now c.requires.whole c.index-place.result.now c.index-references-place.result n within c.index-references-place.is (c.numbers.invariant.bound ∙ count_of c.args.references.now))

pub numbers-preserved : goal.numbers-preserved
numbers-preserved c =
    let inside : c.numbers.number < length c.numbers.found.places.items = omega (arith, c.numbers-test.true, c.len.ensures, c.numbers.found.places.ok.0) in
    growing_more c.args.references.now c.requires.whole c.args.start c.numbers.number c.numbers.found c.add_all-in-numbers.new.self c.index-references-place.result c.index-place.result.now c.numbers.invariant inside c.index-place.ensures
    c.index-references-place.is
    (subst (λ (xs : List ℕ). Adds c.numbers.found c.add_all-in-numbers.new.self (Contains xs)) c.deref-in-numbers.ensures.value c.in_ok-add_all-2.ensures)

pub returns-clause-reached : goal.returns-clause-reached
returns-clause-reached c =
    let past : length c.numbers.found.places.items ≤ c.numbers.number = omega (arith, c.numbers-test.false, c.len.ensures, c.numbers.found.places.ok.0) in
    reached_is c.args.references.now c.requires.whole c.args.start c.numbers.number c.numbers.found c.numbers.invariant past

pub offset_bounds-references-place : goal.offset_bounds-references-place
offset_bounds-references-place c =
    let inside : c.numbers.number < length c.numbers.found.places.items = omega (arith, c.numbers-test.true, c.len.ensures, c.numbers.found.places.ok.0) in
    let below : c.index-place.result.now < length c.args.references.now =
    place_within c.args.references.now c.requires.whole c.args.start c.numbers.number c.numbers.found c.numbers.found c.index-references-start.result c.index-place.result.now c.numbers.invariant inside c.index-place.ensures in
    search rules
