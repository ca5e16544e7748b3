use Rattle.std.proofs.Common.{◌≡◌, Some, ap, subst, sym, ◌∙◌}
use Rattle.fsm_base.specs.declared.letters.Pair.{Pair}
use Rattle.fsa.specs.Automaton.{Automaton}
use Rattle.lookup_answers.specs.declared.direction.Direction.TheVariants.{Up, Down}
use Rattle.lookup_walk.specs.Moves.{AreMoves}
use Rattle.lookup_walk.specs.Nets.{flagged}
use Rattle.lookup_walk.specs.Ways.{IsWay}
use Rattle.lookup_walk.proofs.Directions.{way_down, way_up}
use Rattle.lookup_walk.proofs.net.Net.flagged.Goals as goal

pub invariant_of-result : goal.invariant_of-result
invariant_of-result c =
    let same = c.in_ok-rules.ensures ∙ c.conditions.ensures in
    let above = subst (λ es. AreMoves Up es c.in_ok-upward.upward) (c.edges.ensures.edges ∙ ap (λ (m : Automaton Pair). m.edges) c.net.ensures) c.in_ok-upward.ensures in
    let below = subst (λ es. AreMoves Down es c.in_ok-downward.downward) c.edges-2.ensures.edges c.in_ok-downward.ensures in (
      way_up c.args.f c.in_ok-rules.rules same c.in_ok-upward.upward above,
      subst (λ ends. IsWay Down (flagged c.args.f) c.in_ok-downward.downward ends (Some c.in_ok-rules.rules)) (sym (c.in_ok-finals.ensures.items ∙ c.finals.ensures.finals))
          (way_down c.args.f c.in_ok-rules.rules same c.in_ok-downward.downward c.in_ok-below.below below c.in_ok-below.ensures.letters c.in_ok-below.ensures.relation),
    )
