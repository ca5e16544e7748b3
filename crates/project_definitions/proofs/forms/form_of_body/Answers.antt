use Rattle.std.proofs.Common.{◌↔◌, IfOk, IsTrue, ap, subst, sym, ◌∙◌}
use Rattle.regex_ast.specs.declared.expr.Atom.{Atom}
use Rattle.expr_kinds.specs.Atoms.{is_known_at, is_symbol, weights_at}
use Rattle.expr_kinds.specs.Forms.{capped}
use Rattle.expr_kinds.specs.declared.form.Form.{Form}
use Rattle.grammar_weights.specs.Weights.{is_same_symbol}
use Rattle.project_sources.specs.Built.{BodyIsBuiltBy}
use Rattle.project_definitions.specs.Bodies.{weight_of_body}
use Rattle.project_definitions.specs.Plain.{body_of}
use Rattle.project_definitions.specs.declared.definition.Body.{Body}
use Rattle.project_definitions.proofs.Telling.{body_fits}
use Rattle.project_definitions.proofs.forms.form_of_body.Goals as goal

pub returns-in-Xfst-clause-weight : goal.returns-in-Xfst-clause-weight
unfolding capped
returns-in-Xfst-clause-weight c = c.form_of.ensures.weight ∙ ap (λ (b : Body Atom). capped (weight_of_body (weights_at c.args.names.now) is_same_symbol (body_of b))) (sym c.in-Xfst.is)

pub returns-in-Lexc-clause-fits : goal.returns-in-Lexc-clause-fits
returns-in-Lexc-clause-fits c =
    body_fits c.args.names.now c.args.body.now c.in-Lexc.lexicons c.deref.result.now c.in-Lexc.is c.deref.ensures.value c.with_kind.result.fits c.form_of_lexicons.result.fits (ap (λ (f : Form). f.fits) c.with_kind.ensures)
    c.form_of_lexicons.ensures.fits

pub returns-in-Twolc-clause-built : goal.returns-in-Twolc-clause-built
returns-in-Twolc-clause-built c =
    subst (λ (b : Body Atom). IfOk c.form_of_grammar.result (λ (form : Form). IsTrue form.built ↔ BodyIsBuiltBy (is_known_at c.args.names.now) is_symbol (body_of b))) (sym c.in-Twolc.is) c.form_of_grammar.ensures.built
