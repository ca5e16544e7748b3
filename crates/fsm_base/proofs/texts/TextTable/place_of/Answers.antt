use Rattle.std.proofs.Common.{subst}
use Rattle.word_relations.specs.Words.{IsDistinct}
use Rattle.fsm_base.proofs.TextLemmas.{placed, searched}
use Rattle.fsm_base.proofs.texts.TextTable.place_of.Goals as goal

pub returns-in-Some : goal.returns-in-Some
returns-in-Some c =
    (c.in-Some.ensures, placed c.args.text.now c.args.self.now (subst (λ v. IsDistinct v) c.self.view_is c.self.invariant) c.in-Some.place c.in-Some.ensures)

pub returns-in-None : goal.returns-in-None
returns-in-None c =
    rw (← c.self.view_is) (searched c.args.text.now c.self.inside.texts.keys c.get_index_of.result c.get_index_of.ensures.index c.get_index_of.ensures.found)
