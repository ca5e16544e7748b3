use Rattle.std.proofs.Common.{length, refl, sym, ◌∙◌, true≢false}
use Rattle.std.specs.Borrow.{Bor}
use Rattle.std.specs.List.{flat_map}
use Rattle.regex_ast.specs.declared.expr.Atom.{Atom}
use Rattle.expr_leaves.specs.Leaves.{seen}
use Rattle.project_definitions.specs.Referring.{place_in}
use Rattle.touched_names.proofs.Found.{found, left_at, none_here}
use Rattle.touched_names.proofs.bodies.one_is_marked.Goals as goal

pub returns-then-is_marked : goal.returns-then-is_marked
returns-then-is_marked c =
    let n = length c.args.marks.now in (
      λ yes. found (λ ls. flat_map (place_in n) (seen ls)) (λ (l : Bor Atom). place_in n l.now) (λ l ls. refl) c.args.marks.now c.args.leaves.now c.leaves.leaf-index _ (left_at c.args.leaves.now c.leaves.leaf-index _ c.leaves-test.true) c.leaves.invariant
          (c.is_marked.ensures.0 c.if-is_marked.true),
      λ h. refl,
    )

pub leaves-preserved : goal.leaves-preserved
leaves-preserved c =
    let n = length c.args.marks.now in
    none_here (λ ls. flat_map (place_in n) (seen ls)) (λ (l : Bor Atom). place_in n l.now) (λ l ls. refl) c.args.marks.now c.args.leaves.now c.leaves.leaf-index _ (left_at c.args.leaves.now c.leaves.leaf-index _ c.leaves-test.true) c.leaves.invariant
    (λ has. true≢false (sym (c.is_marked.ensures.1 has) ∙ c.if-is_marked.false))
