use Rattle.std.proofs.Common.{◌≡◌, ◌∙◌}
use Rattle.regex_ast.specs.Terms.{term}
use Rattle.body_equality.specs.Renumbered.{renumbered}
use Rattle.body_equality.proofs.Rewriting.{same_rows}
use Rattle.body_equality.proofs.equality.same_expr.Goals as goal

pub returns : goal.returns
returns c =
    let left = c.deref.ensures.value ∙ c.in_ok-others.ensures in
    let right = c.deref-2.ensures.value ∙ c.in_ok-row.ensures in
    let told = rw (left, right) at c.same_row.ensures in
    let rows = same_rows (renumbered c.args.numbers.now) (term c.args.other.now) (term c.args.expr.now) in
    (λ yes. rows.0 (told.0 yes), λ same. told.1 (rows.1 same))
