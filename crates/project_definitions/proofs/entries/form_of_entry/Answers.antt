use Rattle.std.proofs.Common.{◌≡◌, length, ap, ◌∙◌, arith}
use Rattle.expr_kinds.specs.declared.form.Form.{Form}
use Rattle.project_definitions.proofs.Telling.{pairs_weigh, sides_weigh}
use Rattle.project_definitions.proofs.entries.form_of_entry.Goals as goal

pub returns-after-are_symbols-clause-weight : goal.returns-after-are_symbols-clause-weight
returns-after-are_symbols-clause-weight c =
    let upper = c.in-Sides.upper in
    let lower = c.in-Sides.lower in
    let up : c.len.result ≡ length upper.items = omega (arith, c.len.ensures, upper.ok.0) in
    let low : c.len-in-Sides.result ≡ length lower.items = omega (arith, c.len-in-Sides.ensures, lower.ok.0) in
    ap (λ (f : Form). f.weight) c.built_if.ensures
    ∙ sides_weigh c.args.names.now c.args.entry.now.form upper lower c.in-Sides.is c.len.result c.len-in-Sides.result up low c.leaf.result c.heavier.result c.heavier-in-Sides.result c.leaf.ensures c.heavier.ensures c.heavier-in-Sides.ensures

pub returns-in-Pairs-clause-weight : goal.returns-in-Pairs-clause-weight
returns-in-Pairs-clause-weight c =
    pairs_weigh c.args.names.now c.args.entry.now.form c.in-Pairs.expr c.in-Pairs.is c.form_of.result c.heavier-in-Pairs.result c.form_of.ensures.weight c.heavier-in-Pairs.ensures
