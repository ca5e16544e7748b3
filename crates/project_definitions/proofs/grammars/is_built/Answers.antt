use Rattle.std.proofs.Common.{[], ap, ◌∙◌}
use Rattle.regex_ast.specs.Terms.{Term, term}
use Rattle.regex_ast.specs.declared.expr.Atom.{Atom}
use Rattle.expr_kinds.specs.Atoms.{is_known_at, is_symbol}
use Rattle.expr_kinds.specs.Built.{IsBuiltBy}
use Rattle.project_definitions.proofs.Passing.{built_as, by_same}
use Rattle.project_definitions.proofs.grammars.is_built.Goals as goal

pub returns : goal.returns
returns c = by_same c.form_of.result.built _ _ (ap (λ (t : Term Atom). IsBuiltBy (is_known_at []) is_symbol t) c.in_ok-map_leaves.ensures ∙ built_as (term c.args.expr.now)) c.form_of.ensures.built
