use Rattle.std.proofs.Common.{ap, ◌∙◌}
use Rattle.regex_ast.specs.Terms.{Term, term}
use Rattle.regex_ast.specs.declared.expr.Atom.{Atom}
use Rattle.expr_kinds.specs.Atoms.{weights_at}
use Rattle.expr_kinds.specs.Forms.{capped}
use Rattle.expr_kinds.specs.Weights.{weight_of}
use Rattle.grammar_weights.proofs.Weighing.{term_weighs}
use Rattle.grammar_weights.proofs.definitions.weight_in.Goals as goal

pub returns : goal.returns
unfolding capped
returns c = λ above is.
    c.form_of.ensures.weight
    ∙ ap (λ (t : Term Atom). capped (weight_of (weights_at c.deref.result.now) t)) c.in_ok-places.ensures
    ∙ rw (← c.deref.ensures.value) at (term_weighs c.args.weighed.now above is (term c.args.expr.now))
