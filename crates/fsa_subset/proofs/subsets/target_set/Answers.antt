use Rattle.std.proofs.Common.{◌<◌, ℕ, None, subst, sym, ap, ◌∙◌, ◌↔◌}
use Rattle.std.specs.List.{Contains}
use Rattle.std.proofs.lemmas.Result.{IfOk-weaker}
use Rattle.fsa_explore.specs.Reaches.{Reaches, IsReached}
use Rattle.fsa_explore.specs.Targets.{IsTarget}
use Rattle.fsa_subset.proofs.Settling.{target_set_is}
use Rattle.fsa_subset.proofs.subsets.target_set.Goals as goal

pub add_targets-requires : goal.add_targets-requires
add_targets-requires c = λ e h. subst (λ n. e.to < n) (sym (ap (λ m. m.bound) c.clear.ensures)) (c.requires.moves e h)

pub settled-requires : goal.settled-requires
settled-requires c = λ e h. subst (λ n. e.to < n) (sym (c.in_ok-add_targets.ensures.ok.grows.bound ∙ ap (λ m. m.bound) c.clear.ensures)) (c.requires.edges e h)

pub returns-clause-set : goal.returns-clause-set
returns-clause-set c =
    let rows = c.args.rows.now in
    let moves = c.args.moves.now in
    IfOk-weaker c.settled.result (λ set. (q : ℕ) → Contains set.items q ↔ IsReached rows c.add_targets.new.states.found q)
    (λ set. (q : ℕ) → Contains set.items q ↔ ((r : ℕ) × IsTarget moves None r × Reaches rows r q))
    (λ set is. target_set_is rows moves c.clear.new.self c.add_targets.new.states (ap (λ m. m.found) c.clear.ensures) c.in_ok-add_targets.ensures.ok set.items is) c.settled.ensures.set
