use Rattle.std.proofs.Common.{subst}
use Rattle.std.specs.List.{Contains}
use Rattle.fsa_rational.specs.Shapes.{Extends}
use Rattle.network_algebra.proofs.PlainStart.{plain_room, plain_start}
use Rattle.network_algebra.proofs.optional.add_plain_start.Goals as goal

pub add_edges-requires : goal.add_edges-requires
add_edges-requires g c e held =
    plain_room c.args.m.now c.in_ok-plain.plain c.edges.ensures.formed (rw c.finals.ensures.finals at c.in_ok-plain.ensures) e (subst (λ es. Contains es e) c.edges.ensures.edges held)

pub returns : goal.returns
returns g c =
    plain_start c.args.m.now c.in_ok-plain.plain c.add_edges.new.m c.edges.ensures.formed.start (rw c.finals.ensures.finals at c.in_ok-plain.ensures)
    (subst (λ es. Extends c.in_ok-plain.plain c.add_edges.new.m (Contains es)) c.edges.ensures.edges c.in_ok-add_edges.ensures)
