use Rattle.std.proofs.Common.{ap, ◌∙◌}
use Rattle.fsa_reduce.proofs.epsilon.edges_from.Goals as goal

pub close-requires : goal.close-requires
close-requires g c = rw (c.in_ok-add.ensures.ok.grows.bound ∙ ap (λ m. m.bound) c.clear.ensures) c.requires.within
