use Rattle.std.proofs.Common.{◌≡◌, length, ap, arith}
use Rattle.std.proofs.lemmas.Bool.Decides.{nat_tests}
use Rattle.flag_texts.proofs.Shapes.{no_end}
use Rattle.flag_texts.proofs.reading.between.Goals as goal

pub returns-then-not-is_empty-2 : goal.returns-then-not-is_empty-2
returns-then-not-is_empty-2 c =
    no_end c.args.text.now c.in_ok-before.before.now c.in_ok-before.rest.now c.in_ok-inner.inner.now c.in_ok-inner.behind.now
    c.in_ok-before.ensures.0 c.in_ok-before.ensures.1 c.in_ok-inner.ensures.0 c.in_ok-inner.ensures.1
    (λ e.
    let long : length c.in_ok-inner.behind.now ≡ 0 = ap length e in
    let test = c.is_empty-2.ensures in
    let is = c.if-not-is_empty-2.true in
    grind (arith, nat_tests))
