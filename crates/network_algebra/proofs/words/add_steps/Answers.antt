use Rattle.std.proofs.Common.{Some, arith, ap, sym, ◌∙◌}
use Rattle.std.proofs.lemmas.Option.{slice_get-get_or}
use Rattle.network_algebra.proofs.Steps.{step_more, steps_all}
use Rattle.network_algebra.proofs.words.add_steps.Goals as goal

pub steps-preserved : goal.steps-preserved
steps-preserved g c = record {
  edges = step_more c.args.letters.now c.steps.place c.index-letters-place.result c.steps.m.edges c.add_edge.new.self.edges
      (slice_get-get_or c.args.letters.now c.steps.place c.index-letters-place.result (omega arith) ∙ ap (λ x. Some x) (sym c.index-letters-place.is)) (ap (λ m. m.edges) c.in_ok-add_edge.ensures.ok) c.steps.invariant.edges;
  finals = ap (λ m. m.finals) c.in_ok-add_edge.ensures.ok ∙ c.steps.invariant.finals;
}

pub returns-clause-edges : goal.returns-clause-edges
returns-clause-edges g c = steps_all c.args.letters.now c.steps.place c.steps.m.edges (omega arith) c.steps.invariant.edges
