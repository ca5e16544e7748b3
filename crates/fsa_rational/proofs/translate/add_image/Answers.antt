use Rattle.std.proofs.Common.{◌≡◌}
use Rattle.std.proofs.lemmas.Result.{on_ok_weaker}
use Rattle.fsa_rational.proofs.Extended.{comes_more, each_all}
use Rattle.fsa_rational.proofs.ImageLanguage.{image_epsilon, image_rows}
use Rattle.fsa_rational.proofs.translate.add_image.Goals as goal

pub returns-in_default : goal.returns-in_default
returns-in_default g c =
    on_ok_weaker c.add_epsilon.result (image_epsilon c.args.rows.now c.args.edge.now c.args.m.now c.add_epsilon.new.m c.in_default.is) c.add_epsilon.ensures

pub loop-row-preserved : goal.loop-row-preserved
loop-row-preserved g c =
    let edge = c.args.edge.now in
    comes_more (λ row. record { from = edge.from; letter = row.1; to = edge.to }) c.rows_at-row-items.result.now c.loop-row.row-index c.row-item.result c.loop-row-test.true c.row-item.is
    c.args.m.now c.loop-row.m c.add_edge.new.self c.loop-row.invariant c.in_ok-add_edge.ensures.ok

pub returns : goal.returns
returns g c =
    let edge = c.args.edge.now in
    image_rows c.args.rows.now c.rows_at-row-items.result.now edge c.in-Some.letter c.args.m.now c.loop-row.m c.in-Some.is c.rows_at-row-items.ensures
    (each_all (λ row e. e ≡ record { from = edge.from; letter = row.1; to = edge.to }) c.rows_at-row-items.result.now c.loop-row.row-index c.args.m.now c.loop-row.m c.loop-row-test.false c.loop-row.invariant)
