use Rattle.std.proofs.Common.{ℕ, None, get_or}
use Rattle.std.proofs.lemmas.List.{get_or_default}
use Rattle.fsa.specs.declared.automaton.Edge.{Edge}
use Rattle.fsa_reduce.proofs.Owned.{own_none, own_more, own_past, own_all}
use Rattle.fsa_reduce.proofs.merging.own_edges.Goals as goal
use Rattle.fsa_reduce.proofs.merging.own_edges.Goals.{then-is_own+in_ok-push, else-is_own}

pub loop-edge-init : goal.loop-edge-init
loop-edge-init c = rw c.new-own.ensures.items (own_none c.args.classes.now c.args.states.now c.args.edges.now)

pub loop-edge-preserved : goal.loop-edge-preserved
loop-edge-preserved c =
    let d : Edge ℕ = record { from = 0; letter = None; to = 0 } in
    let edges = c.args.edges.now in
    let i = c.loop-edge.edge-index in
    let x = get_or edges i d in
    let at = get_or_default edges i d x c.loop-edge-test.true in
    elim c.if-is_own.branch [
      | then-is_own+in_ok-push w ↦
          rw w.own-is (own_more c.args.classes.now c.args.states.now edges i x c.loop-edge-test.true at c.loop-edge.own.items w.push.new.self.items (c.is_own.ensures.0 w.if-is_own.true) w.in_ok-push.ensures.items c.loop-edge.invariant)
      | else-is_own w ↦
          rw w.own-is (own_past c.args.classes.now c.args.states.now edges i x c.loop-edge-test.true at c.loop-edge.own.items (λ is. let yes = c.is_own.ensures.1 is in let no = w.if-is_own.false in cc) c.loop-edge.invariant)
    ]

pub returns : goal.returns
returns c = own_all c.args.classes.now c.args.states.now c.args.edges.now c.loop-edge.edge-index c.loop-edge.own.items c.loop-edge-test.false c.loop-edge.invariant
