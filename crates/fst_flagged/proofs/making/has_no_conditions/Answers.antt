use Rattle.fst_flagged.specs.Images.{is_plain}
use Rattle.fst_flagged.proofs.Stands.{passes_all, none_has_conditions}
use Rattle.fst_flagged.proofs.making.has_no_conditions.Goals as goal

pub returns : goal.returns
returns c passes = none_has_conditions c.args.net.now (λ e held. passes_all (λ e. is_plain e.letter) c.args.net.now.edges (rw (c.pairs_are_plain.ensures, c.edges.ensures.edges) at passes) e held)
