use Rattle.std.proofs.Common.{◌≡◌, ◌+◌, ◌++◌, [], ◌∷◌, Contains, take, ap, inl, inr, sym, subst, ◌∙◌}
use Rattle.std.specs.BTreeMap.{get}
use Rattle.std.proofs.lemmas.List.{take_more, take_all}
use Rattle.std.proofs.lemmas.List.Elements.{Contains-push_cases}
use Rattle.fsa.specs.declared.automaton.Edge.{Edge}
use Rattle.fsa_subset.proofs.Lettered.{found_distinct}
use Rattle.fsa_subset.proofs.letters.letters_on.Goals as goal

pub loop-edge-preserved : goal.loop-edge-preserved
loop-edge-preserved g c =
    let edges = c.args.edges.now in
    let i = c.loop-edge.edge-index in
    let y = c.edge-item.result in
    let front : take (i + 1) edges ≡ take i edges ++ y ∷ [] = take_more edges i y c.loop-edge-test.true ∙ ap (λ z. take i edges ++ z ∷ []) (sym c.edge-item.is) in (
      c.in_ok-add_letter.ensures.found,
      λ e x h is. elim (Contains-push_cases (take i edges) y e (subst (λ es. Contains es e) front h)) [
        | inl old ↦ c.in_ok-add_letter.ensures.letters x (inl (c.loop-edge.invariant.1 e x old is))
        | inr same ↦ c.in_ok-add_letter.ensures.letters x (inr (ap (λ (z : Edge g.row.L.Denot). z.letter) same ∙ is))
      ],
    )

pub returns-clause-distinct : goal.returns-clause-distinct
returns-clause-distinct g c = found_distinct c.loop-edge.letters.items (get g.L.Ord.cmp c.loop-edge.places) c.loop-edge.invariant.0

pub returns-clause-all : goal.returns-clause-all
returns-clause-all g c = λ e x h is.
    c.loop-edge.invariant.1 e x (subst (λ es. Contains es e) (sym (take_all c.loop-edge.edge-index c.args.edges.now c.loop-edge-test.false)) h) is
