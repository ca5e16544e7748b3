use Rattle.std.proofs.Common.{sym, ap, ◌∙◌}
use Rattle.regex_ast.specs.declared.expr.Atom.TheVariants.{Sym, Name}
use Rattle.name_resolution.proofs.GrammarLeaves.{atom_symbol, atom_name, atom_behind}
use Rattle.name_resolution.proofs.resolving.atom_of.Goals as goal

pub returns-then-is_symbol : goal.returns-then-is_symbol
returns-then-is_symbol c =
    let number = rw c.symbol_text-text.ensures at c.number_of.ensures in
    ap (λ n. Sym (record { 0 = n })) number ∙ atom_symbol c.args.names.now c.args.leaf.now c.args.table.now (sym c.is_symbol.ensures ∙ c.if-is_symbol.true)

pub returns-then-is_name : goal.returns-then-is_name
returns-then-is_name c =
    let place = rw c.symbol_text-text.ensures at c.number_of-then-is_name.ensures in
    ap (λ n. Name n) place ∙ atom_name c.args.names.now c.args.leaf.now c.args.table.now (sym c.is_name.ensures ∙ c.if-is_name.true)

pub returns-else-is_name : goal.returns-else-is_name
returns-else-is_name c =
    ap (λ n. Name n) c.end.ensures
    ∙ atom_behind c.args.names.now c.args.leaf.now c.args.table.now (sym c.is_symbol.ensures ∙ c.if-is_symbol.false) (sym c.is_name.ensures ∙ c.if-is_name.false)
