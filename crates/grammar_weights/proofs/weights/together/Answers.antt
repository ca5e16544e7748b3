use Rattle.std.proofs.Common.{◌+◌, ap, ◌∙◌}
use Rattle.expr_kinds.specs.Forms.{capped}
use Rattle.expr_kinds.specs.declared.form.Form.{Form}
use Rattle.grammar_weights.proofs.Weighing.{first_part}
use Rattle.grammar_weights.proofs.weights.together.Goals as goal

pub returns : goal.returns
returns c = ap (λ (f : Form). f.weight) c.heavier.ensures ∙ ap (λ (f : Form). capped (f.weight + c.args.second)) c.leaf.ensures ∙ first_part c.args.first c.args.second
