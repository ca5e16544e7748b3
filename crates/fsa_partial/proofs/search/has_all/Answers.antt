use Rattle.std.proofs.Common.{◌≡◌, Contains, sym, subst, inl, inr, arith}
use Rattle.std.proofs.lemmas.Bool.{cases_lt}
use Rattle.fsa_partial.proofs.search.has_all.Goals as goal

pub loop-number-preserved : goal.loop-number-preserved
loop-number-preserved c = λ s l. elim (cases_lt s c.loop-number.number) [
  | inl old ↦ c.loop-number.invariant s old
  | inr past ↦
      let this : s ≡ c.loop-number.number = omega arith in
      subst (Contains c.args.set.now.found) (sym this) (c.contains.ensures.0 c.if-not-contains.false)
]
