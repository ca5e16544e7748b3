use Rattle.std.proofs.Common.{◌*◌, false, replicate, length, length-append, ap, arith, ◌∙◌}
use Rattle.std.proofs.lemmas.List.{length-replicate}
use Rattle.fsa_rational.proofs.Walks.{FitsBelow-from}
use Rattle.fsa_rational.proofs.IgnoringLanguage.{ignoring_shape, ignoring_letters, ignoring_language}
use Rattle.fsa_rational.proofs.insertion.ignore.Goals as goal

pub add_shifted-requires : goal.add_shifted-requires
add_shifted-requires g c =
    let a = c.args.a.now in
    let copies = length a.finals * c.states.result in
    let finals = ap (λ m. length m.finals) c.in_ok-m.ensures ∙ length-append a.finals (replicate copies false) in
    let more = length-replicate copies false in
    rw c.edges.ensures.edges (FitsBelow-from a c.edges.ensures.formed 0 _ (omega arith))

pub returns : goal.returns
returns g c =
    let a = c.args.a.now in
    let put = c.args.put.now in
    let shape = ignoring_shape a put c.in_ok-m.m c.add_shifted.new.m c.add_copies.new.m (ap (λ m. m.edges) c.in_ok-m.ensures) (rw c.states.ensures.number at (ap (λ m. m.finals) c.in_ok-m.ensures))
    (rw c.edges.ensures.edges at c.in_ok-add_shifted.ensures) (rw c.states-2.ensures.number at c.in_ok-add_copies.ensures) in
    record {
      letters = ignoring_letters a put c.edges.ensures.formed c.states.ensures.formed c.add_copies.new.m shape;
      language = ignoring_language a put c.edges.ensures.formed c.states.ensures.formed c.add_copies.new.m shape;
    }
