use Rattle.std.proofs.Common.{◌≡◌, ◌+◌, ◌++◌, ◌∷◌, [], true, false, replicate, set, length, ap, arith, ◌∙◌}
use Rattle.std.proofs.lemmas.List.{length-set}
use Rattle.fsa_rational.proofs.Walks.{FitsBelow-from, one_more_states}
use Rattle.fsa_rational.proofs.StarLanguage.{star_shape, star_letters, star_language}
use Rattle.fsa_rational.proofs.join.star.Goals as goal

pub add_shifted-requires : goal.add_shifted-requires
add_shifted-requires g c =
    let a = c.args.a.now in
    let made = ap (λ m. m.finals) c.in_ok-m.ensures in
    let finals = ap (λ m. m.finals) c.set_final.ensures ∙ ap (λ fs. set fs 0 true) made in
    let long : length c.set_final.new.self.finals ≡ length a.finals + 1 =
    ap length finals ∙ length-set (replicate (length a.finals) false ++ false ∷ []) 0 true ∙ one_more_states (length a.finals) in
    rw c.edges.ensures.edges (FitsBelow-from a c.edges.ensures.formed 1 _ (omega arith))

pub returns : goal.returns
returns g c =
    let a = c.args.a.now in
    let made = ap (λ m. m.finals) c.in_ok-m.ensures in
    let finals = ap (λ m. m.finals) c.set_final.ensures ∙ ap (λ fs. set fs 0 true) made in
    let none = ap (λ m. m.edges) c.set_final.ensures ∙ ap (λ m. m.edges) c.in_ok-m.ensures in
    let shape = star_shape a c.set_final.new.self c.add_shifted.new.m c.add_epsilon.new.m c.leave_finals.new.m none finals
    (rw c.edges.ensures.edges at c.in_ok-add_shifted.ensures) c.in_ok-add_epsilon.ensures (rw c.finals.ensures.finals at c.in_ok-leave_finals.ensures) in
    record {
      letters = star_letters a c.edges.ensures.formed c.leave_finals.new.m shape;
      language = star_language a c.edges.ensures.formed c.leave_finals.new.m shape;
    }
