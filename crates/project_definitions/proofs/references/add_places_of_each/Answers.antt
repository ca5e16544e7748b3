use Rattle.std.proofs.Common.{◌+◌, ◌++◌, drop, sym, ap, ◌∙◌, arith, append-nil}
use Rattle.std.proofs.lemmas.List.{drop_all}
use Rattle.word_relations.proofs.Behind.{left_behind}
use Rattle.std.specs.List.{flat_map}
use Rattle.expr_leaves.proofs.Behind.{go_on}
use Rattle.name_resolution.specs.Symbols.{terms_behind}
use Rattle.project_definitions.specs.Referring.{places_in}
use Rattle.project_definitions.proofs.references.add_places_of_each.Goals as goal

pub exprs-preserved : goal.exprs-preserved
exprs-preserved c =
    go_on c.exprs.places.items c.add_places_in.new.places.items _ (flat_map (places_in c.args.count) (terms_behind (drop (c.exprs.expr-index + 1) c.args.exprs.now))) _ _ c.in_ok-add_places_in.ensures
    (ap (λ z. flat_map (places_in c.args.count) (terms_behind z)) (left_behind c.args.exprs.now c.exprs.expr-index c.expr-item.result (omega arith) c.expr-item.is)) c.exprs.invariant

pub returns : goal.returns
returns c =
    sym (append-nil c.exprs.places.items) ∙ ap (λ z. c.exprs.places.items ++ flat_map (places_in c.args.count) (terms_behind z)) (sym (drop_all c.exprs.expr-index c.args.exprs.now (omega arith)))
    ∙ c.exprs.invariant
