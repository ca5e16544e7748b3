use Rattle.std.proofs.Common.{◌<◌, ℕ, length, refl, subst, arith, ◌∙◌}
use Rattle.std.proofs.lemmas.Option.{slice_get_read}
use Rattle.fsa_minimal.proofs.Chained.{IsMarked, chain_turn, marked_all}
use Rattle.fsa_minimal.proofs.refining.mark_sources.Goals as goal

pub loop-next-smaller : goal.loop-next-smaller
loop-next-smaller g c =
    let a = c.args.a.now in
    let place = c.args.inverse.now.place in
    let befores = c.args.inverse.now.before.items in
    let old = c.args.marked.now.found in
    let now = c.loop-next.marked in
    let source = c.in-Some.source in
    let o = c.index-next-in-Some.result.now in
    let bound : ℕ = c.loop-next.invariant.1.0 in
    let m = subst (λ p. IsMarked a place c.args.state old now.found bound p) c.in-Some.is c.loop-next.invariant.1.1.0 in
    let there : source < length befores = let l = m.rest.0 in let n = c.requires.inverse.before_count in let e = c.loop-next.invariant.1.1.1 in omega arith in
    (chain_turn a place c.args.state c.args.inverse.now.last.items befores c.requires.inverse old now c.add.new.self bound source c.loop-next.next o c.in-Some.is c.loop-next.invariant.1.1.0
    c.in_ok-add.ensures.ok (slice_get_read befores (length befores) source o refl there c.index-next-in-Some.ensures)).1

pub loop-next-preserved : goal.loop-next-preserved
loop-next-preserved g c =
    let a = c.args.a.now in
    let place = c.args.inverse.now.place in
    let befores = c.args.inverse.now.before.items in
    let old = c.args.marked.now.found in
    let now = c.loop-next.marked in
    let source = c.in-Some.source in
    let o = c.index-next-in-Some.result.now in
    let bound : ℕ = c.loop-next.invariant.1.0 in
    let m = subst (λ p. IsMarked a place c.args.state old now.found bound p) c.in-Some.is c.loop-next.invariant.1.1.0 in
    let n = c.requires.inverse.before_count in
    let there : source < length befores = let l = m.rest.0 in let e = c.loop-next.invariant.1.1.1 in omega arith in
    let turn = chain_turn a place c.args.state c.args.inverse.now.last.items befores c.requires.inverse old now c.add.new.self bound source c.loop-next.next o c.in-Some.is c.loop-next.invariant.1.1.0
    c.in_ok-add.ensures.ok (slice_get_read befores (length befores) source o refl there c.index-next-in-Some.ensures) in
    (c.in_ok-add.ensures.ok.grows.bound ∙ c.loop-next.invariant.0, (source, (turn.0, omega arith)))

pub returns-clause-marked : goal.returns-clause-marked
returns-clause-marked g c =
    let a = c.args.a.now in
    let place = c.args.inverse.now.place in
    let bound : ℕ = c.loop-next.invariant.1.0 in
    marked_all a place c.args.state c.args.marked.now.found c.loop-next.marked.found bound
    (subst (λ p. IsMarked a place c.args.state c.args.marked.now.found c.loop-next.marked.found bound p) c.in_default.is c.loop-next.invariant.1.1.0)
