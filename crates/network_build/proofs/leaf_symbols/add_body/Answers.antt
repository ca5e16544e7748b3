use Rattle.std.proofs.Common.{◌∙◌, ap, subst, sym}
use Rattle.std.proofs.lemmas.Result.{on_ok_weaker}
use Rattle.regex_ast.specs.declared.expr.Atom.{Atom}
use Rattle.expr_leaves.specs.Leaves.{seen}
use Rattle.project_definitions.specs.Plain.{body_of}
use Rattle.project_definitions.specs.declared.definition.Body.{Body}
use Rattle.network_build.specs.Gathered.{AddsLeaves}
use Rattle.network_build.specs.Networks.{body_leaves}
use Rattle.network_build.proofs.Gathering.{lexicons_leaves}
use Rattle.network_build.proofs.leaf_symbols.add_body.Goals as goal

pub returns-in-Lexc : goal.returns-in-Lexc
returns-in-Lexc c =
    let old = c.args.symbols.now in
    let new = c.add_lexicons.new.symbols in
    on_ok_weaker c.add_lexicons.result
    (λ h. subst (λ (body : Body Atom). AddsLeaves old new (body_leaves (body_of body))) (sym c.in-Lexc.is) (subst (λ lexicons. AddsLeaves old new (lexicons_leaves lexicons)) c.deref-in-Lexc.ensures.value h))
    c.add_lexicons.ensures

pub returns-in_ok-leaves-in-Xfst : goal.returns-in_ok-leaves-in-Xfst
returns-in_ok-leaves-in-Xfst c =
    let old = c.args.symbols.now in
    let new = c.add_leaves.new.symbols in
    on_ok_weaker c.add_leaves.result
    (λ h. subst (λ (body : Body Atom). AddsLeaves old new (body_leaves (body_of body))) (sym c.in-Xfst.is) (subst (AddsLeaves old new) (ap seen c.deref.ensures.value ∙ c.in_ok-leaves-in-Xfst.ensures) h))
    c.add_leaves.ensures

pub returns-in_ok-grammar_leaves-in-Twolc : goal.returns-in_ok-grammar_leaves-in-Twolc
returns-in_ok-grammar_leaves-in-Twolc c =
    let old = c.args.symbols.now in
    let new = c.add_leaves-in-Twolc.new.symbols in
    on_ok_weaker c.add_leaves-in-Twolc.result
    (λ h. subst (λ (body : Body Atom). AddsLeaves old new (body_leaves (body_of body))) (sym c.in-Twolc.is) (subst (AddsLeaves old new) (ap seen c.deref-in-Twolc.ensures.value ∙ c.in_ok-grammar_leaves-in-Twolc.ensures) h))
    c.add_leaves-in-Twolc.ensures
