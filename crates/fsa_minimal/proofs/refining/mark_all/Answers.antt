use Rattle.std.proofs.Common.{get_or}
use Rattle.std.proofs.lemmas.Option.{slice_get-get_or}
use Rattle.fsa_minimal.proofs.Apart.{sources_more, sources_apart}
use Rattle.fsa_minimal.proofs.refining.mark_all.Goals as goal

pub loop-state-preserved : goal.loop-state-preserved
loop-state-preserved g c =
    let states = c.args.states.now in
    let i = c.loop-state.state-index in
    record {
      bound = c.in_ok-mark_sources.ensures.bound;
      sources = sources_more c.args.a.now c.args.inverse.now.place states c.loop-state.marked.found c.mark_sources.new.marked.found i (get_or states i 0)
          (slice_get-get_or states i 0 c.loop-state-test.true) c.loop-state.invariant.sources c.in_ok-mark_sources.ensures.marked;
    }

pub returns-clause-apart : goal.returns-clause-apart
returns-clause-apart g c = λ apart.
    sources_apart c.args.a.now c.states.ensures.complete c.args.inverse.now.place c.requires.place c.args.states.now c.loop-state.marked.found c.loop-state.state-index
    c.loop-state-test.false c.loop-state.invariant.sources apart
