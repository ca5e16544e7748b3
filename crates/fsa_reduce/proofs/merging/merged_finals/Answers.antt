use Rattle.std.proofs.Common.{◌<◌, length, false, Some, get_or, ap, ◌∙◌}
use Rattle.std.proofs.lemmas.Option.{slice_get-get_or}
use Rattle.fsa_reduce.proofs.MergedFinals.{merged_none, merged_more, merged_past, merged_all}
use Rattle.fsa_reduce.proofs.merging.merged_finals.Goals as goal
use Rattle.fsa_reduce.proofs.merging.merged_finals.Goals.{then-is_final, else-is_final}

pub loop-state-init : goal.loop-state-init
loop-state-init c = merged_none c.args.finals.now c.args.classes.now c.args.count c.in_ok-merged.merged.items (c.in_ok-merged.ensures.items_if_clones_equal (λ y h. h))

pub loop-state-preserved : goal.loop-state-preserved
loop-state-preserved c =
    let finals = c.args.finals.now in
    let classes = c.args.classes.now in
    let i = c.loop-state.state in
    let inside : i < length classes = rw c.requires.number c.loop-state-test.true in
    let at = slice_get-get_or finals i false c.loop-state-test.true in
    elim c.if-is_final.branch [
      | then-is_final w ↦ rw w.merged-is (merged_more finals classes c.args.count i (get_or classes i 0) c.loop-state.merged.items (at ∙ ap Some w.if-is_final.true) (slice_get-get_or classes i 0 inside) (c.requires.within i 0 inside) c.loop-state.invariant)
      | else-is_final w ↦ rw w.merged-is (merged_past finals classes c.args.count i c.loop-state.merged.items (at ∙ ap Some w.if-is_final.false) c.loop-state.invariant)
    ]

pub returns-clause-finals : goal.returns-clause-finals
returns-clause-finals c = merged_all c.args.finals.now c.args.classes.now c.args.count c.loop-state.state c.loop-state.merged.items c.loop-state-test.false c.loop-state.invariant
