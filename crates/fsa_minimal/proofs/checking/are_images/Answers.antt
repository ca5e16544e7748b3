use Rattle.std.proofs.Common.{get_or, None, ◌≡◌, ◌<◌, inl, inr, Some, length, sym, subst, rules, arith}
use Rattle.std.specs.List.{slice_get}
use Rattle.std.proofs.lemmas.Option.{slice_get_within, get_or_from_slice_get}
use Rattle.std.proofs.lemmas.Bool.{cases_lt}
use Rattle.fsa_minimal.specs.Images.{GoesOnAs}
use Rattle.fsa_minimal.proofs.checking.are_images.Goals as goal

pub loop-state-preserved : goal.loop-state-preserved
loop-state-preserved g c = λ s i below is. elim (cases_lt s c.loop-state.state) [
  | inl old ↦ c.loop-state.invariant s i old is
  | inr past ↦
      let now = c.loop-state.state in
      let this : s ≡ now = omega arith in
      let image : get_or c.args.images.now now None ≡ Some i =
      get_or_from_slice_get c.args.images.now now (Some i) None (subst (λ k. slice_get c.args.images.now k ≡ Some (Some i)) this is) in
      subst (λ k. (k < length c.args.a.now.finals) × GoesOnAs c.args.a.now c.args.b.now c.args.images.now k i) (sym this)
      (c.becomes.ensures (c.if-not-becomes.false) i image)
]

pub returns : goal.returns
returns g c = λ _. record {
  start = search rules;
  there = λ s i is. (c.loop-state.invariant s i (let l = slice_get_within c.args.images.now s (Some i) is in let p = c.loop-state-test.false in omega arith) is).0;
  goes_on = λ s i is. (c.loop-state.invariant s i (let l = slice_get_within c.args.images.now s (Some i) is in let p = c.loop-state-test.false in omega arith) is).1;
}
