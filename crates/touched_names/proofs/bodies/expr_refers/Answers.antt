use Rattle.std.proofs.Common.{◌↔◌, IsTrue, length, sym, ap, subst, ◌∙◌}
use Rattle.std.specs.List.{flat_map}
use Rattle.regex_ast.specs.Terms.{term}
use Rattle.expr_leaves.specs.Leaves.{seen}
use Rattle.project_definitions.specs.Referring.{place_in}
use Rattle.name_resolution.proofs.Listed.{listed_is}
use Rattle.touched_names.specs.Places.{HasMarked}
use Rattle.touched_names.proofs.bodies.expr_refers.Goals as goal

pub returns : goal.returns
returns c =
    let n = length c.args.marks.now in
    let same = ap (λ z. flat_map (place_in n) (seen z)) c.deref.ensures.value ∙ ap (flat_map (place_in n)) c.in_ok-leaves.ensures ∙ sym (listed_is (place_in n) (term c.args.expr.now)) in
    subst (λ z. IsTrue c.one_is_marked.result ↔ HasMarked c.args.marks.now z) same c.one_is_marked.ensures
