use Rattle.std.proofs.Common.{None, get_or, take, sym, subst}
use Rattle.std.proofs.lemmas.List.{take_more, take_all}
use Rattle.flag_diacritics.specs.declared.tape.Tape.{Tape}
use Rattle.flag_diacritics.specs.declared.tape.Tape.TheVariants.{Pair}
use Rattle.lexc_compile.specs.Built.{Walks}
use Rattle.lexc_compile.proofs.Walking.{walks_none, walks_more}
use Rattle.lexc_compile.proofs.words.walk.Goals as goal

pub loop-letter-init : goal.loop-letter-init
loop-letter-init c = walks_none c.args.from c.args.m.now c.args.steps.now c.requires.from c.requires.table

pub take_step-requires : goal.take_step-requires
take_step-requires c = c.loop-letter.invariant.there

pub loop-letter-preserved : goal.loop-letter-preserved
loop-letter-preserved c =
    let tape = c.args.tape.now in
    let i = c.loop-letter.letter-index in
    let letter : Tape = get_or tape i (Pair (record { up = None; low = None })) in
    subst (λ xs. Walks c.args.from xs c.args.m.now c.args.steps.now c.take_step.new.m c.take_step.new.steps c.in_ok-at.at)
    (sym (take_more tape i (Pair (record { up = None; low = None })) c.loop-letter-test.true))
    (walks_more c.args.from (take i tape) letter c.args.m.now c.loop-letter.m c.take_step.new.m c.args.steps.now c.loop-letter.steps c.take_step.new.steps c.loop-letter.at c.in_ok-at.at c.loop-letter.invariant c.in_ok-at.ensures)

pub returns : goal.returns
returns c = subst (λ xs. Walks c.args.from xs c.args.m.now c.args.steps.now c.loop-letter.m c.loop-letter.steps c.loop-letter.at) (take_all c.loop-letter.letter-index c.args.tape.now c.loop-letter-test.false) c.loop-letter.invariant
