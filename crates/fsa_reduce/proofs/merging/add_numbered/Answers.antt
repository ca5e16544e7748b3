use Rattle.std.proofs.Common.{◌≡◌, ℕ, None, get_or, sym, subst}
use Rattle.std.proofs.lemmas.List.{get_or_default}
use Rattle.std.proofs.lemmas.List.Elements.{Contains-get_or}
use Rattle.fsa.specs.declared.automaton.Edge.{Edge}
use Rattle.fsa_rational.proofs.Extended.{Extends-push, Extends-same, each_more, each_past, each_all}
use Rattle.fsa_reduce.specs.Numbering.{StandsFor}
use Rattle.fsa_reduce.proofs.MergedLanguage.{stands_once}
use Rattle.fsa_reduce.proofs.merging.add_numbered.Goals as goal
use Rattle.fsa_reduce.proofs.merging.add_numbered.Goals.{in-Some+in_ok-add_edge, in_default}

pub add_edge-requires-clause-from : goal.add_edge-requires-clause-from
add_edge-requires-clause-from g c =
    let d : Edge ℕ = record { from = 0; letter = None; to = 0 } in
    let i = c.loop-edge.edge-index in
    let within = (c.requires (get_or c.args.edges.now i d) (Contains-get_or c.args.edges.now i d c.loop-edge-test.true)).0 in
    rw (c.in-Some.ensures.3, c.loop-edge.invariant.finals) within

pub add_edge-requires-clause-to : goal.add_edge-requires-clause-to
add_edge-requires-clause-to g c =
    let d : Edge ℕ = record { from = 0; letter = None; to = 0 } in
    let i = c.loop-edge.edge-index in
    let within = (c.requires (get_or c.args.edges.now i d) (Contains-get_or c.args.edges.now i d c.loop-edge-test.true)).1 in
    rw (c.in-Some.ensures.4, c.loop-edge.invariant.finals) within

pub loop-edge-preserved : goal.loop-edge-preserved
loop-edge-preserved g c =
    let d : Edge ℕ = record { from = 0; letter = None; to = 0 } in
    let letters = c.args.letters.now in
    let edges = c.args.edges.now in
    let i = c.loop-edge.edge-index in
    let x = get_or edges i d in
    let at = get_or_default edges i d x c.loop-edge-test.true in
    let now = c.loop-edge.m in
    elim c.match-lettered.branch [
      | in-Some+in_ok-add_edge w ↦
          let new = w.add_edge.new.self in
          let e = w.in-Some.with_letter in
          let stands : StandsFor letters e x = w.in-Some.ensures in
          rw w.m-is (each_more (λ f y. StandsFor letters y f) edges i x c.loop-edge-test.true at c.args.m.now now new c.loop-edge.invariant
          (Extends-same now new (λ y. y ≡ e) (λ y. StandsFor letters y x) (λ y same. subst (λ z. StandsFor letters z x) (sym same) stands) (λ y p. stands_once letters y e x p stands) (Extends-push now new e w.in_ok-add_edge.ensures.ok)))
      | in_default w ↦
          rw w.m-is (each_past (λ f y. StandsFor letters y f) edges i x c.loop-edge-test.true at c.args.m.now now (λ y p. w.in_default.ensures y p) c.loop-edge.invariant)
    ]

pub returns : goal.returns
returns g c = each_all (λ f y. StandsFor c.args.letters.now y f) c.args.edges.now c.loop-edge.edge-index c.args.m.now c.loop-edge.m c.loop-edge-test.false c.loop-edge.invariant
