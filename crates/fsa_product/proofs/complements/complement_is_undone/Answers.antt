use Rattle.fsa_product.proofs.Turned.{undone}
use Rattle.fsa_product.proofs.complements.complement_is_undone.Goals as goal

pub returns : goal.returns
returns g c = undone c.args.a.now c.states.ensures.complete
