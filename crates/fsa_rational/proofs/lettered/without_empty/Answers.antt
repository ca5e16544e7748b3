use Rattle.fsa_rational.proofs.Walks.{same_elements}
use Rattle.fsa_rational.proofs.EmptyLanguage.{bypassed_not_epsilon, bypassed_letters, bypassed_language}
use Rattle.fsa_rational.proofs.lettered.without_empty.Goals as goal

pub bypass-requires-clause-within : goal.bypass-requires-clause-within
bypass-requires-clause-within g c =
    let moved = rw c.edges.ensures.edges at c.in_ok-rows.ensures in
    λ e h. (c.edges.ensures.formed.within e ((same_elements c.args.a.now.edges c.in_ok-rows.rows moved e).0 h)).1

pub bypass-requires-clause-states : goal.bypass-requires-clause-states
bypass-requires-clause-states g c =
    let within = rw c.in_ok-entered.ensures.bound at c.found.ensures.bounded.within in
    rw c.found.ensures.found within

pub returns : goal.returns
returns g c =
    let a = c.args.a.now in
    let rows = c.in_ok-rows.rows in
    let moved = rw c.edges.ensures.edges at c.in_ok-rows.ensures in
    let same = same_elements a.edges rows moved in
    let states = c.found.result.now in
    let m = c.bypass.new.m in
    let shape = c.in_ok-bypass.ensures in
    record {
      epsilon = bypassed_not_epsilon a rows same states m shape;
      letters = bypassed_letters a rows same states m shape;
      language = bypassed_language a rows same states m shape (rw c.found.ensures.found c.in_ok-entered.ensures.start) (rw c.found.ensures.found c.in_ok-entered.ensures.targets);
    }
