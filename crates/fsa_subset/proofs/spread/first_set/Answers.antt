use Rattle.std.proofs.Common.{◌<◌, ap, sym, subst, ◌∙◌}
use Rattle.fsa_subset.specs.Sets.{HasMove, IsSettled, LeadsBy}
use Rattle.fsa_subset.proofs.Settling.{start_is}
use Rattle.fsa_subset.proofs.Spreading.{spread_first}
use Rattle.fsa_subset.proofs.spread.first_set.Goals as goal

pub settled-requires : goal.settled-requires
settled-requires c = λ e h. subst (λ n. e.to < n) (sym (c.in_ok-add.ensures.ok.grows.bound ∙ ap (λ m. m.bound) c.clear.ensures)) (c.requires.within e h)

pub returns-clause-found : goal.returns-clause-found
returns-clause-found c =
    let rows = c.args.rows.now in
    let bound = c.args.reached.now.bound in
    let start = c.in_ok-set.set.items in
    let same = c.in_ok-add.ensures.ok.grows.bound ∙ ap (λ m. m.bound) c.clear.ensures in
    let is = start_is rows c.clear.new.self c.add.new.self (ap (λ k. k.found) c.clear.ensures) c.in_ok-add.ensures.ok start c.in_ok-set.ensures.set in
    let state : IsSettled rows bound start = subst (λ n. IsSettled rows n start) same c.in_ok-set.ensures.settled in
    (start, is, spread_first (IsSettled rows bound) (LeadsBy rows) (HasMove rows) start c.in_ok-found.found c.in_ok-found.ensures.sets c.in_ok-found.ensures.edges state)
