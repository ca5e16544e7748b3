use Rattle.std.proofs.lemmas.Option.{slice_get_within}
use Rattle.fsa.proofs.Paths.{accepts_more, accepts_all}
use Rattle.fsa.proofs.complete.Dfa.accepts.Goals as goal

pub loop-letter-init : goal.loop-letter-init
loop-letter-init g c = (c.letters-letters.ensures.complete.start, (λ h. h, λ h. h))

pub returns-in_default : goal.returns-in_default
returns-in_default g c =
    let held = c.requires c.loop-letter.letter-index c.letter-item.result c.loop-letter-test.true in
    absurd (c.in_default.ensures (rw (c.letters-letters.ensures.letters, c.letter-item.is) held))

pub next-state-requires-clause-place : goal.next-state-requires-clause-place
next-state-requires-clause-place g c =
    slice_get_within _ c.in-Some.place c.letter-item.result (rw c.letters-letters.ensures.letters at c.in-Some.ensures)

pub loop-letter-preserved : goal.loop-letter-preserved
loop-letter-preserved g c = (
  c.next-state.ensures.within,
  accepts_more c.args.self.now c.letters-letters.ensures.complete c.args.word.now c.loop-letter.state c.next-state.result c.in-Some.place c.loop-letter.letter-index c.letter-item.result
      c.loop-letter-test.true c.letter-item.is (rw c.letters-letters.ensures.letters at c.in-Some.ensures) c.next-state.ensures.next c.loop-letter.invariant.1,
)

pub returns : goal.returns
returns g c =
    accepts_all c.args.self.now c.letters-letters.ensures.complete c.args.word.now c.loop-letter.state c.loop-letter.letter-index c.is_final.result
    c.loop-letter-test.false c.is_final.ensures c.loop-letter.invariant.1
