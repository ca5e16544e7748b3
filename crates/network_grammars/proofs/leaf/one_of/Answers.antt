use Rattle.std.proofs.Common.{◌∙◌}
use Rattle.network_grammars.proofs.leaf.one_of.Goals as goal

pub returns-clause-letters : goal.returns-clause-letters
returns-clause-letters c = rw (c.deref.ensures.value ∙ c.in_ok-inner_letters.ensures) at c.one_letter.ensures.letters
