use Rattle.std.proofs.Common.{ap, sym, ◌∙◌}
use Rattle.regex_ast.specs.Terms.{term}
use Rattle.regex_ast.specs.declared.expr.Raw.{Raw}
use Rattle.project_meaning.specs.Leaves.{leaf_of, resolved}
use Rattle.project_meaning.specs.Trees.{twolc, xfst}
use Rattle.grammar_pairs.specs.Plain.{grammar_of}
use Rattle.name_resolution.specs.Numbered.{numbered}
use Rattle.name_resolution.proofs.Mapped.{mapped_twice}
use Rattle.project_definitions.specs.Bodies.{mapped_body}
use Rattle.project_definitions.specs.Plain.{body_of}
use Rattle.project_definitions.specs.declared.definition.Body.{Body}
use Rattle.project_model.proofs.plan.resolve_body.Goals as goal

pub returns-in_ok-resolve-in-Xfst : goal.returns-in_ok-resolve-in-Xfst
returns-in_ok-resolve-in-Xfst c =
    let names = c.args.names.now in
    let by_number = numbered names c.args.table.now in
    ap xfst (c.in_ok-resolve-in-Xfst.ensures ∙ sym (mapped_twice by_number (leaf_of names) (term c.in-Xfst.expr)))
    ∙ ap (λ (b : Body Raw). mapped_body by_number (resolved names (body_of b))) (sym c.in-Xfst.is)

pub returns-in_ok-resolve_grammar-in-Twolc : goal.returns-in_ok-resolve_grammar-in-Twolc
returns-in_ok-resolve_grammar-in-Twolc c =
    let names = c.args.names.now in
    let table = c.args.table.now in
    ap twolc (c.in_ok-resolve_grammar-in-Twolc.ensures.grammar ∙ c.is_resolved_by_number.ensures names table (grammar_of c.in-Twolc.grammar))
    ∙ ap (λ (b : Body Raw). mapped_body (numbered names table) (resolved names (body_of b))) (sym c.in-Twolc.is)
