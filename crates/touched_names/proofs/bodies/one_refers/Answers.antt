use Rattle.std.proofs.Common.{length, refl, sym, ◌∙◌, true≢false}
use Rattle.std.specs.Borrow.{Bor}
use Rattle.std.specs.List.{flat_map}
use Rattle.word_relations.proofs.Behind.{left_behind}
use Rattle.regex_ast.specs.Terms.{term}
use Rattle.regex_ast.specs.declared.expr.Atom.{Atom}
use Rattle.regex_ast.specs.declared.expr.Expr.{Expr}
use Rattle.name_resolution.specs.Symbols.{terms_behind}
use Rattle.project_definitions.specs.Referring.{places_in}
use Rattle.touched_names.proofs.Found.{found, none_here}
use Rattle.touched_names.proofs.bodies.one_refers.Goals as goal

pub returns-then-branch : goal.returns-then-branch
returns-then-branch c =
    let n = length c.args.marks.now in
    let left = left_behind c.args.exprs.now c.exprs.expr-index c.expr-item.result c.exprs-test.true c.expr-item.is in (
      λ yes. found (λ es. flat_map (places_in n) (terms_behind es)) (λ (e : Bor (Expr Atom)). places_in n (term e.now)) (λ e es. refl) c.args.marks.now c.args.exprs.now c.exprs.expr-index c.expr-item.result left c.exprs.invariant
          (c.in_ok-expr_refers.ensures.0 c.if-branch.true),
      λ h. refl,
    )

pub exprs-preserved : goal.exprs-preserved
exprs-preserved c =
    let n = length c.args.marks.now in
    let left = left_behind c.args.exprs.now c.exprs.expr-index c.expr-item.result c.exprs-test.true c.expr-item.is in
    none_here (λ es. flat_map (places_in n) (terms_behind es)) (λ (e : Bor (Expr Atom)). places_in n (term e.now)) (λ e es. refl) c.args.marks.now c.args.exprs.now c.exprs.expr-index c.expr-item.result left c.exprs.invariant
    (λ has. true≢false (sym (c.in_ok-expr_refers.ensures.1 has) ∙ c.if-branch.false))
