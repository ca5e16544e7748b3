use Rattle.std.proofs.Common.{◌≤◌, Some, length, ap, sym, ◌∙◌}
use Rattle.std.proofs.lemmas.Option.{slice_get-get_or}
use Rattle.fsa.proofs.Arcs.{HasArcs-row_none, HasArcs-row_more, HasArcs-row_all}
use Rattle.fsa.proofs.complete.Dfa.add_row.Goals as goal

pub loop-place-init : goal.loop-place-init
loop-place-init g c = (c.requires.finals, HasArcs-row_none c.args.self.now c.args.state c.args.fsa.now.edges c.requires.before)

pub loop-place-preserved : goal.loop-place-preserved
loop-place-preserved g c =
    let at = slice_get-get_or c.letters-letter-items.result.now c.loop-place.place c.letter-item.result c.loop-place-test.true in
    rw c.in_ok-add_edge.ensures.ok (
      c.loop-place.invariant.0,
      HasArcs-row_more c.args.self.now c.args.state c.loop-place.place c.next.result c.letter-item.result c.loop-place.fsa.edges
          (rw (← c.letters-letter-items.ensures.letters) (at ∙ ap Some (sym c.letter-item.is))) c.next.ensures.next c.loop-place.invariant.1,
    )

pub returns-clause-after : goal.returns-clause-after
returns-clause-after g c =
    let past : length c.args.self.now.letters ≤ c.loop-place.place = rw (← c.letters-letter-items.ensures.letters) c.loop-place-test.false in
    HasArcs-row_all c.args.self.now c.args.state c.loop-place.place c.loop-place.fsa.edges past c.loop-place.invariant.1
