use Rattle.std.proofs.Common.{refl}
use Rattle.network_build.proofs.network.build.Goals as goal

pub network_if_filled-requires-clause-ground : goal.network_if_filled-requires-clause-ground
network_if_filled-requires-clause-ground c = rw c.symbols.ensures.symbols c.requires.ground

pub network_if_filled-requires-clause-built : goal.network_if_filled-requires-clause-built
network_if_filled-requires-clause-built c = rw c.symbols.ensures.symbols c.requires.built

pub returns-in-Some-clause-filled : goal.returns-in-Some-clause-filled
returns-in-Some-clause-filled c = rw (c.in-Some.is, c.symbols.ensures.symbols) at c.in_ok-network.ensures.filled

pub returns-in-None-clause-error : goal.returns-in-None-clause-error
returns-in-None-clause-error c = (refl, rw (c.in-None.is, c.symbols.ensures.symbols) at c.in_ok-network.ensures.filled)
