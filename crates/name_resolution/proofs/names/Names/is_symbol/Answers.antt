use Rattle.std.proofs.Common.{◌==◌, ◌&&◌, not, length, sym, ap, ◌∙◌}
use Rattle.project_meaning.specs.Leaves.{written}
use Rattle.name_resolution.proofs.GrammarLeaves.{name_is_no_symbol, symbol_test}
use Rattle.name_resolution.proofs.names.Names.is_symbol.Goals as goal

pub returns-then-not-is_name : goal.returns-then-not-is_name
returns-then-not-is_name c =
    let empty = rw c.symbol_text.ensures at c.is_empty.ensures in
    let named = sym c.is_name.ensures ∙ c.if-not-is_name.true in
    ap not empty ∙ ap (λ b. not b && not (length (written c.args.leaf.now) == 0)) (sym named) ∙ symbol_test c.args.self.now c.args.leaf.now

pub returns-else-not-is_name : goal.returns-else-not-is_name
returns-else-not-is_name c = ap not c.if-not-is_name.false ∙ sym (name_is_no_symbol c.args.self.now c.args.leaf.now (sym c.is_name.ensures ∙ c.if-not-is_name.false))
