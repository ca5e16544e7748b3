use Rattle.std.proofs.Common.{◌≡◌, ◌+◌, Bool, false, true, List, Some, get_or, ap, subst, sym, ◌∙◌, slice_get}
use Rattle.std.proofs.lemmas.Option.{get_or_from_slice_get, slice_get-get_or}
use Rattle.fsm_base.specs.declared.letters.Sym.{Sym}
use Rattle.fsa.specs.declared.automaton.Edge.{Edge}
use Rattle.lookup.proofs.Nodes.{Closes, closes_all, closes_more, closes_skip}
use Rattle.lookup.proofs.conditions.add_closing.Goals as goal
use Rattle.lookup.proofs.conditions.add_closing.Goals.{then-is_final+in_ok-push, else-is_final}

pub states-preserved : goal.states-preserved
states-preserved c =
    let finals : List Bool = c.args.finals.now in
    let old : List (Edge Sym) = c.args.edges.now.items in
    let found : List (Edge Sym) = c.states.edges.items in
    elim c.if-is_final.branch [
      | then-is_final+in_ok-push w ↦
          let final : slice_get finals c.states.state ≡ Some true = slice_get-get_or finals c.states.state false c.states-test.true ∙ ap (λ (b : Bool). Some b) w.if-is_final.true in
          subst (λ es. Closes finals (c.states.state + 1) old es) (sym (ap (λ es. es.items) w.edges-is ∙ w.in_ok-push.ensures.items)) (closes_more finals old found c.states.state final c.states.invariant)
      | else-is_final w ↦
          let other : ¬ (slice_get finals c.states.state ≡ Some true) = λ h. (let there : get_or finals c.states.state false ≡ true = get_or_from_slice_get finals c.states.state true false h in let here : get_or finals c.states.state false ≡ false = w.if-is_final.false in cc) in
          subst (λ es. Closes finals (c.states.state + 1) old es) (sym (ap (λ es. es.items) w.edges-is)) (closes_skip finals old found c.states.state other c.states.invariant)
    ]

pub returns : goal.returns
returns c = closes_all c.args.finals.now c.args.edges.now.items c.states.edges.items c.states.state c.states-test.false c.states.invariant
