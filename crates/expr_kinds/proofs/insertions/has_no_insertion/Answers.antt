use Rattle.std.proofs.Common.{◌&&◌, ◌+◌, Bool, not, drop, sym, ap, ◌∙◌}
use Rattle.regex_ast.specs.Terms.{groups_of}
use Rattle.expr_kinds.specs.Built.{has_no_insertion}
use Rattle.expr_kinds.proofs.Inserts.{group_next}
use Rattle.expr_kinds.proofs.insertions.has_no_insertion.Goals as goal

pub returns-then-holds_insertion : goal.returns-then-holds_insertion
returns-then-holds_insertion c =
    let next = group_next c.args.groups.now c.groups.group-index c.group-item.result c.deref.result.now c.holds_insertion.result c.groups-test.true c.group-item.is c.deref.ensures.value c.holds_insertion.ensures in
    sym (ap (λ (b : Bool). not b && has_no_insertion (groups_of (drop (c.groups.group-index + 1) c.args.groups.now))) c.if-holds_insertion.true) ∙ sym next ∙ c.groups.invariant

pub groups-preserved : goal.groups-preserved
groups-preserved c =
    let next = group_next c.args.groups.now c.groups.group-index c.group-item.result c.deref.result.now c.holds_insertion.result c.groups-test.true c.group-item.is c.deref.ensures.value c.holds_insertion.ensures in
    sym (ap (λ (b : Bool). not b && has_no_insertion (groups_of (drop (c.groups.group-index + 1) c.args.groups.now))) c.if-holds_insertion.false) ∙ sym next ∙ c.groups.invariant
