use Rattle.fsa_explore.specs.Explored.{AddsRow}
use Rattle.fsa_product.specs.Pairs.{IsPair, LeadsAt}
use Rattle.fsa_product.proofs.products.PairsLazyAutomaton.add_row.Given as goal

abbrev pub invariant-loop-place : goal.invariant-loop-place
invariant-loop-place g l = AddsRow (IsPair l.self.first.now l.self.second.now) (LeadsAt l.self.first.now l.self.second.now l.self.places.now l.pair) l.place-index l.initial.found l.found
