use Rattle.std.proofs.Common.{◌<◌, sym, subst}
use Rattle.fsa_partial.proofs.checking.are_reached.Goals as goal

pub returns : goal.returns
returns g c = λ true no s l. c.in_ok-reached.ensures.led no s (c.has_all.ensures true s (subst (λ n. s < n) (sym c.states-count.ensures.number) l))
