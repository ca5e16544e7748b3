use Rattle.std.proofs.Common.{sym, ap, ◌∙◌}
use Rattle.std.specs.List.{flat_map}
use Rattle.regex_ast.specs.Terms.{term}
use Rattle.expr_leaves.specs.Leaves.{seen}
use Rattle.project_meaning.specs.Leaves.{leaf_of, symbol_in}
use Rattle.project_model.specs.Gathered.{gathered}
use Rattle.name_resolution.specs.Symbols.{symbol_beside}
use Rattle.name_resolution.proofs.Listed.{listed_is}
use Rattle.name_resolution.proofs.Mapped.{mapped_listed}
use Rattle.project_model.proofs.symbols.add_expression.Goals as goal

pub returns : goal.returns
returns c =
    let of = symbol_beside c.args.names.now in
    c.in_ok-add_symbols.ensures
    ∙ ap (gathered c.args.table.now)
    (ap (λ z. flat_map of (seen z)) c.deref.ensures.value ∙ ap (flat_map of) c.in_ok-leaves.ensures ∙ sym (listed_is of (term c.args.expr.now))
    ∙ sym (mapped_listed symbol_in (leaf_of c.args.names.now) (term c.args.expr.now)))
