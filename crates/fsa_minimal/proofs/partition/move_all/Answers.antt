use Rattle.std.proofs.Common.{get_or}
use Rattle.std.proofs.lemmas.Option.{slice_get-get_or}
use Rattle.fsa_minimal.proofs.Moving.{IsMoved-none, IsMoved-more, IsMoved-all}
use Rattle.fsa_minimal.proofs.partition.move_all.Goals as goal

pub loop-state-init : goal.loop-state-init
loop-state-init c = IsMoved-none c.args.part.now c.args.class c.args.class_of.now.items

pub loop-state-preserved : goal.loop-state-preserved
loop-state-preserved c =
    let i = c.loop-state.state-index in
    IsMoved-more c.args.part.now c.args.class c.args.class_of.now.items c.loop-state.class_of.items i (get_or c.args.part.now i 0) (slice_get-get_or c.args.part.now i 0 c.loop-state-test.true) (c.requires i 0 c.loop-state-test.true) c.loop-state.invariant

pub returns : goal.returns
returns c = IsMoved-all c.args.part.now c.args.class c.args.class_of.now.items c.loop-state.class_of.items c.loop-state.state-index c.loop-state-test.false c.loop-state.invariant
