use Rattle.std.proofs.Common.{◌∙◌, ap, subst, sym}
use Rattle.std.proofs.lemmas.Result.{on_ok_weaker}
use Rattle.regex_ast.specs.declared.expr.Atom.{Atom}
use Rattle.regex_ast.specs.declared.lexc.Form.{Form}
use Rattle.expr_leaves.specs.Leaves.{seen}
use Rattle.name_resolution.specs.Plain.{form_of}
use Rattle.network_build.specs.Gathered.{AddsLeaves}
use Rattle.network_build.specs.Networks.{form_leaves}
use Rattle.network_build.proofs.Gathering.{adds_both, side_leaves}
use Rattle.network_build.proofs.leaf_symbols.add_form.Goals as goal

pub returns-in_ok-add_side-in-Sides : goal.returns-in_ok-add_side-in-Sides
returns-in_ok-add_side-in-Sides c =
    let old = c.args.symbols.now in
    let between = c.add_side.new.symbols in
    let new = c.add_side-in-Sides.new.symbols in
    on_ok_weaker c.add_side-in-Sides.result
    (λ h. subst (λ (form : Form Atom). AddsLeaves old new (form_leaves (form_of form))) (sym c.in-Sides.is)
    (adds_both old between new (side_leaves c.in-Sides.upper.items) (side_leaves c.in-Sides.lower.items)
    (subst (λ side. AddsLeaves old between (side_leaves side)) c.deref.ensures.value c.in_ok-add_side-in-Sides.ensures)
    (subst (λ side. AddsLeaves between new (side_leaves side)) c.deref-in-Sides.ensures.value h)))
    c.add_side-in-Sides.ensures

pub returns-in_ok-leaves-in-Pairs : goal.returns-in_ok-leaves-in-Pairs
returns-in_ok-leaves-in-Pairs c =
    let old = c.args.symbols.now in
    let new = c.add_leaves.new.symbols in
    on_ok_weaker c.add_leaves.result
    (λ h. subst (λ (form : Form Atom). AddsLeaves old new (form_leaves (form_of form))) (sym c.in-Pairs.is)
    (subst (AddsLeaves old new) (ap seen c.deref-in-Pairs.ensures.value ∙ c.in_ok-leaves-in-Pairs.ensures) h))
    c.add_leaves.ensures
