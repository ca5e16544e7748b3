use Rattle.std.proofs.Common.{◌≡◌, ◌≤◌, ◌⊎◌, ◌-◌, ◌∷◌, Bool, List, ℕ, length, reverse, subst, sym, arith}
use Rattle.fsm_base.specs.declared.letters.Bound.{Bound}
use Rattle.fsm_base.specs.declared.letters.Bound.TheVariants.{Edge}
use Rattle.fsm_base.specs.declared.letters.Pair.{Pair}
use Rattle.expr_meaning.specs.Operators.{inner}
use Rattle.pair_test.specs.Marks.{AreAt, AreMarks, IsMarked}
use Rattle.pair_test.proofs.Places.{at_first, at_second, both_room, context_marked, places_within}
use Rattle.pair_test.proofs.holding.mark_context.Goals as goal

pub beginnings-requires : goal.beginnings-requires
beginnings-requires c =
    let t = c.args.context.now in
    let s = c.args.spelled.now in
    places_within t.before.letters c.deref.result.now (Edge ∷ inner s.word.now) (subst (λ (z : List ℕ). AreAt t.before.letters z (Edge ∷ inner s.word.now)) (sym c.deref.ensures.value) (at_first s t c.requires.fits))

pub beginnings-requires-2 : goal.beginnings-requires-2
beginnings-requires-2 c =
    let t = c.args.context.now in
    let s = c.args.spelled.now in
    places_within t.behind.letters c.deref-2.result.now (Edge ∷ inner (reverse s.word.now)) (subst (λ (z : List ℕ). AreAt t.behind.letters z (Edge ∷ inner (reverse s.word.now))) (sym c.deref-2.ensures.value) (at_second s t c.requires.fits))

pub mark_both-requires-clause-before : goal.mark_both-requires-clause-before
mark_both-requires-clause-before c =
    let t = c.args.context.now in
    let s = c.args.spelled.now in
    let w : List (Bound Pair) = Edge ∷ inner s.word.now in
    let v : List (Bound Pair) = Edge ∷ inner (reverse s.word.now) in
    let first = c.in_ok-before.ensures w (subst (λ (z : List ℕ). AreAt t.before.letters z w) (sym c.deref.ensures.value) (at_first s t c.requires.fits)) in
    let second = c.in_ok-behind.ensures v (subst (λ (z : List ℕ). AreAt t.behind.letters z v) (sym c.deref-2.ensures.value) (at_second s t c.requires.fits)) in
    let long : length c.args.marks.now.items ≡ c.len-count.result = omega (arith, c.args.marks.now.ok, c.len-count.ensures) in
    let room = both_room t s c.args.width c.len-count.result c.in_ok-before.before.items c.in_ok-behind.behind.items c.args.marks.now.items first second long c.requires.count in
    subst (λ (z : List Bool). c.len-count.result ≤ length z) (sym c.deref-3.ensures.value) room.0

pub mark_both-requires-clause-behind : goal.mark_both-requires-clause-behind
mark_both-requires-clause-behind c =
    let t = c.args.context.now in
    let s = c.args.spelled.now in
    let w : List (Bound Pair) = Edge ∷ inner s.word.now in
    let v : List (Bound Pair) = Edge ∷ inner (reverse s.word.now) in
    let first = c.in_ok-before.ensures w (subst (λ (z : List ℕ). AreAt t.before.letters z w) (sym c.deref.ensures.value) (at_first s t c.requires.fits)) in
    let second = c.in_ok-behind.ensures v (subst (λ (z : List ℕ). AreAt t.behind.letters z v) (sym c.deref-2.ensures.value) (at_second s t c.requires.fits)) in
    let long : length c.args.marks.now.items ≡ c.len-count.result = omega (arith, c.args.marks.now.ok, c.len-count.ensures) in
    let room = both_room t s c.args.width c.len-count.result c.in_ok-before.before.items c.in_ok-behind.behind.items c.args.marks.now.items first second long c.requires.count in
    subst (λ (z : List Bool). c.len-count.result ≤ length z) (sym c.deref-4.ensures.value) room.1

pub returns : goal.returns
returns c =
    let t = c.args.context.now in
    let s = c.args.spelled.now in
    let w : List (Bound Pair) = Edge ∷ inner s.word.now in
    let v : List (Bound Pair) = Edge ∷ inner (reverse s.word.now) in
    let first = c.in_ok-before.ensures w (subst (λ (z : List ℕ). AreAt t.before.letters z w) (sym c.deref.ensures.value) (at_first s t c.requires.fits)) in
    let second = c.in_ok-behind.ensures v (subst (λ (z : List ℕ). AreAt t.behind.letters z v) (sym c.deref-2.ensures.value) (at_second s t c.requires.fits)) in
    let old = c.args.marks.now.items in
    let new = c.mark_both.new.marks.items in
    let count = c.len-count.result in
    let long : length old ≡ count = omega (arith, c.args.marks.now.ok, c.len-count.ensures) in
    let are = subst (λ (z : List Bool). AreMarks (λ k. IsMarked old k ⊎ (IsMarked c.in_ok-before.before.items k × IsMarked z (count - 1 - k))) count new) c.deref-4.ensures.value
    (subst (λ (z : List Bool). AreMarks (λ k. IsMarked old k ⊎ (IsMarked z k × IsMarked c.deref-4.result.now (count - 1 - k))) count new) c.deref-3.ensures.value c.mark_both.ensures) in
    context_marked t s c.args.width count c.in_ok-before.before.items c.in_ok-behind.behind.items old new first second long c.requires.count are
