use Rattle.std.proofs.Common.{◌∙◌}
use Rattle.project_store.proofs.shared.copied_fsa.Goals as goal

pub of-requires-clause-within : goal.of-requires-clause-within
of-requires-clause-within g c e among =
    let edges_are = c.in_ok-edges.ensures.items ∙ c.edges.ensures.edges in
    let finals_are = c.in_ok-finals.ensures.items ∙ c.finals.ensures.finals in
    rw finals_are (c.edges.ensures.formed.within e (rw edges_are at among))
