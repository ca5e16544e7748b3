use Rattle.std.proofs.Common.{◌∙◌}
use Rattle.grammar_pairs.proofs.Found.{under_found}
use Rattle.grammar_pairs.proofs.name_table.NameTable.get.Goals as goal

pub returns : goal.returns
returns g c = rw (← c.self.view_is) (c.get.ensures.value ∙ under_found c.args.name.now c.self.inside.values.entries)
