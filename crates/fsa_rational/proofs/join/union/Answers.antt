use Rattle.std.proofs.Common.{◌≡◌, ◌+◌, ◌-◌, length, ap, arith}
use Rattle.fsa_rational.proofs.Walks.{FitsBelow-from}
use Rattle.fsa_rational.proofs.UnionLanguage.{union_shape, union_letters, union_language, union_states}
use Rattle.fsa_rational.proofs.join.union.Goals as goal

pub add_shifted-requires : goal.add_shifted-requires
add_shifted-requires g c =
    let states = union_states c.args.a.now c.args.b.now c.in_ok-m.m (ap (λ m. m.finals) c.in_ok-m.ensures) in
    rw c.edges.ensures.edges (FitsBelow-from c.args.a.now c.edges.ensures.formed 1 _ (omega arith))

pub add_shifted-requires-2 : goal.add_shifted-requires-2
add_shifted-requires-2 g c =
    let states = union_states c.args.a.now c.args.b.now c.in_ok-m.m (ap (λ m. m.finals) c.in_ok-m.ensures) in
    let same = ap length c.in_ok-add_shifted.ensures.finals in
    rw c.edges-2.ensures.edges (FitsBelow-from c.args.b.now c.edges-2.ensures.formed (c.states.result - c.states-2.result) _ (omega arith))

pub returns : goal.returns
returns g c =
    let a = c.args.a.now in
    let b = c.args.b.now in
    let n = c.states.result - c.states-2.result in
    let states = union_states a b c.in_ok-m.m (ap (λ m. m.finals) c.in_ok-m.ensures) in
    let raised : n ≡ length a.finals + 1 = omega arith in
    let shape = union_shape a b n raised c.in_ok-m.m c.add_shifted.new.m c.add_shifted-2.new.m c.add_epsilon.new.m c.add_epsilon-2.new.m
    (ap (λ m. m.edges) c.in_ok-m.ensures) (ap (λ m. m.finals) c.in_ok-m.ensures)
    (rw c.edges.ensures.edges at c.in_ok-add_shifted.ensures) (rw c.edges-2.ensures.edges at c.in_ok-add_shifted-2.ensures)
    c.in_ok-add_epsilon.ensures c.in_ok-add_epsilon-2.ensures in
    record {
      letters = union_letters a b c.edges.ensures.formed c.edges-2.ensures.formed n c.add_epsilon-2.new.m shape;
      language = union_language a b c.edges.ensures.formed c.edges-2.ensures.formed n c.add_epsilon-2.new.m shape;
    }
