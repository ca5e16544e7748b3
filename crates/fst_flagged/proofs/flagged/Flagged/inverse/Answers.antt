use Rattle.fst_flagged.proofs.Stands.{if_both, turned_letters}
use Rattle.fst_flagged.proofs.flagged.Flagged.inverse.Goals as goal

pub returns-clause-letters : goal.returns-clause-letters
returns-clause-letters c = if_both c.turned.result _ _ _ (λ g upper lower. turned_letters c.args.self g upper lower) c.turned.ensures.upper c.turned.ensures.lower
