use Rattle.std.proofs.lemmas.Result.{IfOk-weaker}
use Rattle.fsa_partial.proofs.Searched.{deterministic_of, minimal_of}
use Rattle.fsa_partial.proofs.checking.is_minimal.Goals as goal

pub are_apart-requires : goal.are_apart-requires
are_apart-requires g c = rw (c.deref-2.ensures.value) (rw (c.in-Some.is, c.edges.ensures.edges) at c.in_ok-grouped.ensures)

pub returns : goal.returns
returns g c =
    let m = c.args.m.now in
    let are = rw (c.in-Some.is, c.edges.ensures.edges) at c.in_ok-grouped.ensures in
    let ok = deterministic_of m c.in-Some.groups.items are (rw c.deref.ensures.value at (c.in_ok-is_deterministic.ensures c.if-not-is_deterministic.false)) in
    IfOk-weaker c.are_apart.result _ _
    (λ are_apart h true. minimal_of m ok (c.in_ok-is_reached.ensures c.if-not-is_reached.false ok.no_epsilon) (c.in_ok-leads_on.ensures c.if-not-leads_on.false) (h true ok))
    c.are_apart.ensures
