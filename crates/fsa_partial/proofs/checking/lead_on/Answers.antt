use Rattle.std.proofs.Common.{◌<◌, sym, subst, inr}
use Rattle.fsa_partial.proofs.checking.lead_on.Goals as goal

pub returns : goal.returns
returns g c = λ true. inr (λ s l. c.in_ok-leading.ensures.leads s (c.has_all.ensures true s (subst (λ n. s < n) (sym c.states-count.ensures.number) l)))
