use Rattle.std.proofs.Common.{◌≡◌, length, ap, subst, arith, ◌∙◌}
use Rattle.std.specs.List.{Contains}
use Rattle.lookup_walk.proofs.net.copied.Goals as goal

pub of-requires-clause-within : goal.of-requires-clause-within
of-requires-clause-within c = λ e held.
    let inside = c.edges.ensures.formed.within e (subst (λ es. Contains es e) (c.in_ok-edges.ensures.items ∙ c.edges.ensures.edges) held) in
    let same : length c.in_ok-finals.finals.items ≡ length c.args.a.now.finals = ap length (c.in_ok-finals.ensures.items ∙ c.finals.ensures.finals) in
    (omega (arith, inside.0), omega (arith, inside.1))
