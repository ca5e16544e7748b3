use Rattle.std.proofs.Common.{ℕ, List, Some, cond, sym, ap, ◌∙◌}
use Rattle.std.proofs.lemmas.Map.Text.{hash_map_updates_text}
use Rattle.std.specs.Str.{bytes_eq}
use Rattle.std.specs.String.{string_bytes}
use Rattle.grammar_pairs.specs.Tables.{named_entries, under}
use Rattle.grammar_pairs.proofs.Found.{under_found}
use Rattle.grammar_pairs.proofs.name_table.NameTable.put.Goals as goal

pub returns : goal.returns
returns g c = λ other.
    let name = string_bytes c.in_ok-owned.owned in
    rw (← c.self.view_is) (
    sym (under_found other c.insert.new.self.entries) ∙ hash_map_updates_text name c.self.inside.values c.insert.new.self _ c.in_ok-insert.ensures.updates other
    ∙ ap (λ o. cond (bytes_eq name other) (Some c.args.value) o) (under_found other c.self.inside.values.entries)
    ∙ ap (λ (n : List ℕ). cond (bytes_eq n other) (Some c.args.value) (under other (named_entries c.self.inside.values.entries))) c.in_ok-owned.ensures.ok
    )
