use Rattle.std.proofs.Common.{sym, ◌∙◌, true≢false}
use Rattle.body_equality.proofs.Together.{term_differs, term_same}
use Rattle.body_equality.proofs.exprs.same_term.Goals as goal

pub returns-then-not-branch : goal.returns-then-not-branch
returns-then-not-branch c =
    term_differs c.args.numbers.now c.args.other.now c.args.expr.now (λ shapes. true≢false (sym (c.in_ok-same_shape.ensures.1 shapes) ∙ c.if-not-branch.true))

pub returns : goal.returns
returns c =
    let shapes = c.in_ok-same_shape.ensures.0 c.if-not-branch.false in
    let told = rw (c.deref.ensures.value, c.deref-2.ensures.value) at c.same_parts.ensures in
    term_same c.args.numbers.now c.args.other.now c.args.expr.now c.in_ok-others.others.items c.in_ok-parts.parts.items c.in_ok-others.ensures c.in_ok-parts.ensures shapes c.same_parts.result told
