use Rattle.std.proofs.Common.{◌↔◌, IsTrue, sym, ap, subst, ◌∙◌}
use Rattle.regex_ast.specs.Terms.{term}
use Rattle.expr_kinds.specs.Atoms.{is_known_at, is_symbol, leaves_at, weights_at}
use Rattle.expr_kinds.specs.Forms.{capped}
use Rattle.expr_kinds.specs.Kinds.{Fits}
use Rattle.expr_kinds.specs.declared.form.Form.{Form}
use Rattle.expr_kinds.specs.Built.{IsBuiltBy}
use Rattle.expr_kinds.proofs.BuiltLaws.{built_is}
use Rattle.expr_kinds.proofs.KindLaws.{kind_is}
use Rattle.expr_kinds.proofs.FitLaws.{fits_is}
use Rattle.expr_kinds.proofs.WeightLaws.{weight_is}
use Rattle.expr_kinds.proofs.walk.form_of.Goals as goal

pub returns-clause-kind : goal.returns-clause-kind
returns-clause-kind c = ap (λ (f : Form). f.kind) c.in_expression.ensures ∙ kind_is (leaves_at c.args.names.now) (weights_at c.args.names.now) (is_known_at c.args.names.now) is_symbol (term c.args.expr.now)

pub returns-clause-fits : goal.returns-clause-fits
returns-clause-fits c = subst (λ (f : Form). IsTrue f.fits ↔ Fits (leaves_at c.args.names.now) (term c.args.expr.now)) (sym c.in_expression.ensures) (fits_is (leaves_at c.args.names.now) (weights_at c.args.names.now) (is_known_at c.args.names.now) is_symbol (term c.args.expr.now))

pub returns-clause-weight : goal.returns-clause-weight
unfolding capped
returns-clause-weight c = ap (λ (f : Form). f.weight) c.in_expression.ensures ∙ weight_is (leaves_at c.args.names.now) (weights_at c.args.names.now) (is_known_at c.args.names.now) is_symbol (term c.args.expr.now)

pub returns-clause-built : goal.returns-clause-built
returns-clause-built c = subst (λ (f : Form). IsTrue f.built ↔ IsBuiltBy (is_known_at c.args.names.now) is_symbol (term c.args.expr.now)) (sym c.in_expression.ensures) (built_is (leaves_at c.args.names.now) (weights_at c.args.names.now) (is_known_at c.args.names.now) is_symbol (term c.args.expr.now))
