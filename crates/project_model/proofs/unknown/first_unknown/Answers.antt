use Rattle.std.proofs.Common.{arith, false, true, ◌≡◌, sym, ◌∙◌}
use Rattle.project_model.proofs.Requiring.{known_more, unknown_here}
use Rattle.project_model.proofs.unknown.first_unknown.Goals as goal

pub returns-then-requires_unknown : goal.returns-then-requires_unknown
returns-then-requires_unknown c =
    unknown_here c.args.names.now c.args.lines.now c.lines.line-index c.line-item.result (omega arith) c.line-item.is c.lines.invariant (c.requires_unknown.ensures.0 c.if-requires_unknown.true)

pub lines-preserved : goal.lines-preserved
lines-preserved c =
    known_more c.args.names.now c.args.lines.now c.lines.line-index c.line-item.result (omega arith) c.line-item.is c.lines.invariant
    (λ is. let clash : false ≡ true = sym c.if-requires_unknown.false ∙ c.requires_unknown.ensures.1 is in cc)
