use Rattle.std.proofs.Common.{◌≡◌, ◌≤◌, Some, length, refl, sym, subst, rules, ◌∙◌, ap}
use Rattle.std.specs.List.{slice_get}
use Rattle.fsa_explore.specs.Explored.{IsExplored}
use Rattle.fsa_explore.proofs.Exploring.{exploring_none, exploring_state, exploring_step, exploring_all}
use Rattle.fsa_explore.proofs.lazy.explore.Goals as goal

pub loop-alloc-init : goal.loop-alloc-init
loop-alloc-init g c =
    let a = c.args.automaton.now in
    let A = g.A.LazyAutomaton in
    rw c.new-finals.ensures.items (refl, exploring_none (A.is_state a) (A.leads a) (A.is_final_state a) (A.letters a) c.args.start.now c.in_ok-found.found c.requires c.in_ok-found.ensures)

pub is_final-requires : goal.is_final-requires
is_final-requires g c =
    let a = c.args.automaton.now in
    let A = g.A.LazyAutomaton in
    let list = c.in_ok-state.state.items in
    let at : slice_get c.loop-alloc.found.lists (length c.loop-alloc.finals.items) ≡ Some list = search (rules, c.in_ok-state.ensures) in
    let is : A.is_state a list = exploring_state (A.is_state a) (A.leads a) (A.is_final_state a) (A.letters a) c.args.start.now c.loop-alloc.found c.loop-alloc.finals.items list at c.loop-alloc.invariant.1 in
    subst (λ l. A.is_state c.loop-alloc.automaton l) (sym c.deref.ensures.value) (subst (λ x. A.is_state x list) (sym c.loop-alloc.invariant.0) is)

pub add_row-requires : goal.add_row-requires
add_row-requires g c =
    let a = c.args.automaton.now in
    let A = g.A.LazyAutomaton in
    let list = c.in_ok-state.state.items in
    let at : slice_get c.loop-alloc.found.lists (length c.loop-alloc.finals.items) ≡ Some list = search (rules, c.in_ok-state.ensures) in
    let is : A.is_state a list = exploring_state (A.is_state a) (A.leads a) (A.is_final_state a) (A.letters a) c.args.start.now c.loop-alloc.found c.loop-alloc.finals.items list at c.loop-alloc.invariant.1 in
    subst (λ l. A.is_state c.loop-alloc.automaton l) (sym c.deref-in-loop-alloc.ensures.value) (subst (λ x. A.is_state x list) (sym c.loop-alloc.invariant.0) is)

pub loop-alloc-preserved : goal.loop-alloc-preserved
loop-alloc-preserved g c =
    let a = c.args.automaton.now in
    let A = g.A.LazyAutomaton in
    let list = c.in_ok-state.state.items in
    let at : slice_get c.loop-alloc.found.lists (length c.loop-alloc.finals.items) ≡ Some list = search (rules, c.in_ok-state.ensures) in (
      c.in_ok-add_row.ensures.same ∙ c.loop-alloc.invariant.0,
      exploring_step A.is_state A.leads A.is_final_state A.letters c.args.start.now a c.loop-alloc.automaton c.loop-alloc.found c.add_row.new.found c.loop-alloc.finals.items c.push.new.self.items
          list c.deref.result.now c.deref-in-loop-alloc.result.now c.is_final.result c.loop-alloc.invariant.0 c.deref.ensures.value c.deref-in-loop-alloc.ensures.value at
          c.is_final.ensures c.in_ok-add_row.ensures.row c.in_ok-push.ensures.items c.loop-alloc.invariant.1,
    )

pub returns-clause-built : goal.returns-clause-built
returns-clause-built g c =
    let a = c.args.automaton.now in
    let A = g.A.LazyAutomaton in
    let past : length c.loop-alloc.found.lists ≤ length c.loop-alloc.finals.items = search (rules, c.loop-alloc-test.false) in
    subst (λ next. IsExplored (A.is_state a) (A.leads a) (A.is_final_state a) (A.letters a) c.args.start.now next c.loop-alloc.finals.items) (sym (ap (λ f. f.next) c.found.view_is))
    (exploring_all (A.is_state a) (A.leads a) (A.is_final_state a) (A.letters a) c.args.start.now c.loop-alloc.found c.loop-alloc.finals.items past c.loop-alloc.invariant.1)
