use Rattle.std.proofs.Common.{◌↔◌, ℕ, None, get_or, refl, subst}
use Rattle.std.specs.List.{Contains}
use Rattle.std.proofs.lemmas.List.{take_all, get_or_default}
use Rattle.std.proofs.lemmas.List.Elements.{Contains-get_or}
use Rattle.fsa.specs.declared.automaton.Edge.{Edge}
use Rattle.fsa_reduce.proofs.MergedLanguage.{IsMovedOf, moved_more}
use Rattle.fsa_reduce.proofs.merging.moved_edges.Goals as goal

pub class_at-requires : goal.class_at-requires
class_at-requires c =
    let d : Edge ℕ = record { from = 0; letter = None; to = 0 } in
    (c.requires (get_or c.args.edges.now c.loop-edge.edge-index d) (Contains-get_or c.args.edges.now c.loop-edge.edge-index d c.loop-edge-test.true)).0

pub class_at-requires-in-loop-edge : goal.class_at-requires-in-loop-edge
class_at-requires-in-loop-edge c =
    let d : Edge ℕ = record { from = 0; letter = None; to = 0 } in
    (c.requires (get_or c.args.edges.now c.loop-edge.edge-index d) (Contains-get_or c.args.edges.now c.loop-edge.edge-index d c.loop-edge-test.true)).1

pub loop-edge-preserved : goal.loop-edge-preserved
loop-edge-preserved c =
    let d : Edge ℕ = record { from = 0; letter = None; to = 0 } in
    let edges = c.args.edges.now in
    let i = c.loop-edge.edge-index in
    let x = get_or edges i d in
    let y : Edge ℕ = record { from = c.class_at.result; letter = x.letter; to = c.class_at-in-loop-edge.result } in
    moved_more c.args.classes.now edges i x y c.loop-edge-test.true (get_or_default edges i d x c.loop-edge-test.true) c.loop-edge.moved.items c.push.new.self.items
    (c.class_at.ensures, refl, c.class_at-in-loop-edge.ensures) c.in_ok-push.ensures.items c.loop-edge.invariant

pub returns : goal.returns
returns c = λ f.
    subst (λ es. Contains c.loop-edge.moved.items f ↔ IsMovedOf c.args.classes.now es f) (take_all c.loop-edge.edge-index c.args.edges.now c.loop-edge-test.false) (c.loop-edge.invariant f)
