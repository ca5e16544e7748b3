use Rattle.std.proofs.Common.{Some, rules, sym, ap, ◌∙◌}
use Rattle.std.proofs.lemmas.List.Sorted.{answers_always}
use Rattle.network_expr.specs.declared.parts.Part.{Part}
use Rattle.network_expr.proofs.Searched.{found_at, has_number, has_no_number, none_found}
use Rattle.network_expr.proofs.parts.part_of.Goals as goal

-- the closure gives a part's number
pub returns-in-Ok : goal.returns-in-Ok
returns-in-Ok c =
    let parts = c.args.parts.now in
    let part = c.index-parts-place.result in
    let by_number = c.in-Ok.ensures.position (λ part. part.name) (answers_always _ _ _ (λ f a r g called. search rules)) in
    ap (λ (p : Part). Some p) c.index-parts-place.is
    ∙ sym (found_at parts c.args.name c.in-Ok.place part c.requires c.in-Ok.ensures.bound (has_number parts c.args.name c.requires c.in-Ok.place by_number part))

pub returns-in-Err : goal.returns-in-Err
returns-in-Err c =
    let parts = c.args.parts.now in
    let by_number = c.in-Err.ensures.position (λ part. part.name) (answers_always _ _ _ (λ f a r g called. search rules)) in
    sym (none_found parts c.args.name (has_no_number parts c.args.name c.requires c.in-Err.field-0 by_number))
