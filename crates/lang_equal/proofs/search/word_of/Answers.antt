use Rattle.std.proofs.Common.{ap, Some, ◌∙◌, arith, sym}
use Rattle.lang_equal.proofs.Words.{step_back, back_none, back_more, back_all}
use Rattle.lang_equal.proofs.search.word_of.Goals as goal

pub loop-at-init : goal.loop-at-init
loop-at-init g c =
    (c.requires.number, λ words are. back_none c.args.letters.now c.args.steps.now c.args.number c.requires.number words are c.new-word.result.items c.new-word.ensures.items)

pub offset_bounds-letters-step : goal.offset_bounds-letters-step
offset_bounds-letters-step g c =
    let r = step_back c.args.letters.now c.args.steps.now c.loop-at.at c.loop-at.invariant.0 c.requires.words.0 c.requires.words.1 c.in-Some.step c.in-Some.is in
    omega (arith, r.1)

pub bounds-letters-step : goal.bounds-letters-step
bounds-letters-step g c = (step_back c.args.letters.now c.args.steps.now c.loop-at.at c.loop-at.invariant.0 c.requires.words.0 c.requires.words.1 c.in-Some.step c.in-Some.is).1

pub loop-at-smaller : goal.loop-at-smaller
loop-at-smaller g c = (step_back c.args.letters.now c.args.steps.now c.loop-at.at c.loop-at.invariant.0 c.requires.words.0 c.requires.words.1 c.in-Some.step c.in-Some.is).0

pub loop-at-preserved : goal.loop-at-preserved
loop-at-preserved g c =
    let letters = c.args.letters.now in
    let steps = c.args.steps.now in
    let at = c.loop-at.at in (
      (step_back letters steps at c.loop-at.invariant.0 c.requires.words.0 c.requires.words.1 c.in-Some.step c.in-Some.is).2,
      λ words are. back_more letters steps at c.loop-at.invariant.0 c.args.number words are c.loop-at.word.items c.in-Some.step c.in-Some.is
          c.index-letters-step.result c.index-letters-step.is c.push.new.self.items c.in_ok-push.ensures.items (c.loop-at.invariant.1 words are),
    )

pub returns : goal.returns
returns g c = λ words are.
    back_all c.args.letters.now c.args.steps.now c.loop-at.at c.loop-at.invariant.0 c.args.number words are c.loop-at.word.items c.in_default.is (c.loop-at.invariant.1 words are) ∙ ap Some (sym c.reverse.ensures.items)
