use Rattle.std.proofs.Common.{◌≡◌, ◌+◌, false, length, length-append, replicate, ap, arith, ◌∙◌}
use Rattle.std.proofs.lemmas.List.{length-replicate}
use Rattle.std.proofs.lemmas.Result.{on_ok_weaker}
use Rattle.fsa_rational.proofs.Walks.{FitsBelow-from}
use Rattle.lexc_compile.proofs.Adding.{adds_block}
use Rattle.lexc_compile.proofs.blocks.add_block.Goals as goal

pub add_shifted-requires : goal.add_shifted-requires
add_shifted-requires c =
    let old = c.args.m.now in
    let net = c.args.net.now in
    let states = c.states.ensures.number in
    let begin = c.states-begin.ensures.number in
    let long : length c.add_epsilon.new.m.finals ≡ length old.finals + c.states.result =
    ap length (c.in_ok-add_epsilon.ensures.finals ∙ c.in_ok-add_states.ensures.finals) ∙ length-append old.finals (replicate c.states.result false) ∙ ap (λ n. length old.finals + n) (length-replicate c.states.result false) in
    rw c.edges.ensures.edges (FitsBelow-from net c.edges.ensures.formed c.states-begin.result _ (omega arith))

pub returns : goal.returns
returns c =
    on_ok_weaker c.leave_finals.result
    (λ third. adds_block c.args.count c.args.place c.args.net.now c.args.next c.edges.ensures.formed c.args.m.now c.add_states.new.m c.add_epsilon.new.m c.add_shifted.new.m c.leave_finals.new.m
    (rw c.states.ensures.number at c.in_ok-add_states.ensures.finals) c.in_ok-add_states.ensures.edges
    (rw c.states-begin.ensures.number at c.in_ok-add_epsilon.ensures) (rw (c.edges.ensures.edges, c.states-begin.ensures.number) at c.in_ok-add_shifted.ensures)
    (rw (c.finals.ensures.finals, c.states-begin.ensures.number, c.target_of.ensures) at third))
    c.leave_finals.ensures
