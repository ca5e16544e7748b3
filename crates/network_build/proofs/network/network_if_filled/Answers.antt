use Rattle.std.proofs.Common.{All, ap, subst, sym, ◌∙◌}
use Rattle.expr_kinds.specs.Atoms.{is_symbol_of}
use Rattle.expr_kinds.specs.Built.{IsBuiltBy}
use Rattle.network_centres.specs.Centres.{terms_seen}
use Rattle.network_expr.specs.Parts.{is_leaf_of}
use Rattle.project_definitions.specs.Plain.{body_of}
use Rattle.network_build.proofs.Bodies.{expressions_built}
use Rattle.network_build.proofs.network.network_if_filled.Goals as goal

pub one_has_empty_centre-requires-clause-built : goal.one_has_empty_centre-requires-clause-built
one_has_empty_centre-requires-clause-built c =
    let leaf = is_leaf_of c.args.parts.now c.args.alphabet.now in
    let letter = is_symbol_of c.args.alphabet.now in
    subst (All (IsBuiltBy leaf letter)) (sym (ap terms_seen c.deref.ensures.value ∙ c.in_ok-expressions.ensures)) (expressions_built leaf letter (body_of c.args.body.now) c.requires.built)
