use Rattle.std.proofs.Common.{sym, ap, ◌∙◌}
use Rattle.name_resolution.proofs.GrammarLeaves.{letter_with_text, letter_without_text}
use Rattle.name_resolution.proofs.resolving.letter_of.Goals as goal
use Rattle.regex_ast.specs.declared.expr.Atom.TheVariants.{Sym, Name}

pub returns-then-is_empty : goal.returns-then-is_empty
returns-then-is_empty c =
    let empty = rw c.symbol_text-text.ensures at c.is_empty.ensures in
    ap (λ n. Name n) c.end.ensures ∙ letter_without_text c.args.names.now c.args.leaf.now c.args.table.now (sym empty ∙ c.if-is_empty.true)

pub returns-else-is_empty : goal.returns-else-is_empty
returns-else-is_empty c =
    let empty = rw c.symbol_text-text.ensures at c.is_empty.ensures in
    let number = rw c.symbol_text-text.ensures at c.number_of.ensures in
    ap (λ n. Sym (record { 0 = n })) number ∙ letter_with_text c.args.names.now c.args.leaf.now c.args.table.now (sym empty ∙ c.if-is_empty.false)
