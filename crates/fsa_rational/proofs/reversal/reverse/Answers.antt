use Rattle.std.proofs.Common.{◌≡◌, ◌+◌, ◌++◌, ◌∷◌, [], true, false, replicate, set, length, ap, arith, ◌∙◌}
use Rattle.std.proofs.lemmas.List.{length-set}
use Rattle.fsa_rational.proofs.Walks.{FitsBelow-from, one_more_states}
use Rattle.fsa_rational.proofs.ReverseLanguage.{reverse_shape, reverse_letters, reverse_language}
use Rattle.fsa_rational.proofs.reversal.reverse.Goals as goal

pub set_final-requires : goal.set_final-requires
set_final-requires g c =
    let a = c.args.a.now in
    let start = c.edges-edges.ensures.formed.start in
    let long = ap length (ap (λ m. m.finals) c.in_ok-m.ensures) ∙ one_more_states (length a.finals) in
    omega arith

pub add_reversed-requires : goal.add_reversed-requires
add_reversed-requires g c =
    let a = c.args.a.now in
    let made = ap (λ m. m.finals) c.in_ok-m.ensures in
    let finals = ap (λ m. m.finals) c.set_final.ensures ∙ ap (λ fs. set fs 1 true) made in
    let long : length c.set_final.new.self.finals ≡ length a.finals + 1 =
    ap length finals ∙ length-set (replicate (length a.finals) false ++ false ∷ []) 1 true ∙ one_more_states (length a.finals) in
    rw c.edges-edges.ensures.edges (FitsBelow-from a c.edges-edges.ensures.formed 1 _ (omega arith))

pub returns : goal.returns
returns g c =
    let a = c.args.a.now in
    let made = ap (λ m. m.finals) c.in_ok-m.ensures in
    let finals = ap (λ m. m.finals) c.set_final.ensures ∙ ap (λ fs. set fs 1 true) made in
    let none = ap (λ m. m.edges) c.set_final.ensures ∙ ap (λ m. m.edges) c.in_ok-m.ensures in
    let shape = reverse_shape a c.set_final.new.self c.add_reversed.new.m c.enter_finals.new.m none finals
    (rw c.edges-edges.ensures.edges at c.in_ok-add_reversed.ensures) (rw c.finals.ensures.finals at c.in_ok-enter_finals.ensures) in
    record {
      letters = reverse_letters a c.edges-edges.ensures.formed c.enter_finals.new.m shape;
      language = reverse_language a c.edges-edges.ensures.formed c.enter_finals.new.m shape;
    }
