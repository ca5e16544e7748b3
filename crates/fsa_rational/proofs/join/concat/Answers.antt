use Rattle.std.proofs.Common.{length, ap, arith}
use Rattle.fsa_rational.proofs.Walks.{FitsBelow-from}
use Rattle.fsa_rational.proofs.ConcatLanguage.{concat_shape, concat_letters, concat_language, concat_states}
use Rattle.fsa_rational.proofs.join.concat.Goals as goal

pub add_shifted-requires : goal.add_shifted-requires
add_shifted-requires g c =
    let states = concat_states c.args.a.now c.args.b.now c.in_ok-m.m (ap (λ m. m.finals) c.in_ok-m.ensures) in
    rw c.edges.ensures.edges (FitsBelow-from c.args.a.now c.edges.ensures.formed 0 _ (omega arith))

pub add_shifted-requires-2 : goal.add_shifted-requires-2
add_shifted-requires-2 g c =
    let states = concat_states c.args.a.now c.args.b.now c.in_ok-m.m (ap (λ m. m.finals) c.in_ok-m.ensures) in
    let same = ap length c.in_ok-add_shifted.ensures.finals in
    rw c.edges-2.ensures.edges (FitsBelow-from c.args.b.now c.edges-2.ensures.formed c.states.result _ (omega arith))

pub returns : goal.returns
returns g c =
    let a = c.args.a.now in
    let b = c.args.b.now in
    let shape = concat_shape a b c.in_ok-m.m c.add_shifted.new.m c.add_shifted-2.new.m c.leave_finals.new.m
    (ap (λ m. m.edges) c.in_ok-m.ensures) (ap (λ m. m.finals) c.in_ok-m.ensures)
    (rw c.edges.ensures.edges at c.in_ok-add_shifted.ensures) (rw (c.edges-2.ensures.edges, c.states.ensures.number) at c.in_ok-add_shifted-2.ensures)
    (rw (c.finals.ensures.finals, c.states-2.ensures.number) at c.in_ok-leave_finals.ensures) in
    record {
      letters = concat_letters a b c.edges.ensures.formed c.edges-2.ensures.formed c.leave_finals.new.m shape;
      language = concat_language a b c.edges.ensures.formed c.edges-2.ensures.formed c.leave_finals.new.m shape;
    }
