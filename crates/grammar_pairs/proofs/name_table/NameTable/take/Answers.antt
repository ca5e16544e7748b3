use Rattle.std.proofs.Common.{None, cond, sym, ap, ◌∙◌}
use Rattle.std.proofs.lemmas.Map.Text.{hash_map_updates_text}
use Rattle.std.specs.Str.{bytes_eq}
use Rattle.grammar_pairs.proofs.Found.{under_found}
use Rattle.grammar_pairs.proofs.name_table.NameTable.take.Goals as goal

pub returns-clause-taken : goal.returns-clause-taken
returns-clause-taken g c = rw (← c.self.view_is) (c.swap_remove.ensures.value ∙ under_found c.args.name.now c.self.inside.values.entries)

pub returns-clause-others : goal.returns-clause-others
returns-clause-others g c = λ other.
    rw (← c.self.view_is) (
    sym (under_found other c.swap_remove.new.self.entries) ∙ hash_map_updates_text c.args.name.now c.self.inside.values c.swap_remove.new.self None c.swap_remove.ensures.updates other
    ∙ ap (λ o. cond (bytes_eq c.args.name.now other) None o) (under_found other c.self.inside.values.entries)
    )
