use Rattle.std.proofs.Common.{eqb, subst, sym}
use Rattle.std.specs.List.{Contains}
use Rattle.std.proofs.lemmas.List.Filters.{dedup_is}
use Rattle.std.proofs.lemmas.List.Kept.{Contains-dedup_nat, Contains-from_dedup}
use Rattle.std.proofs.lemmas.List.Sorted.{Contains-permutation, IsPermutation-sym}
use Rattle.word_relations.proofs.Members.{Contains-map, Contains-map_cases}
use Rattle.fsa.specs.declared.automaton.Edge.{Edge}
use Rattle.fsa_subset.specs.declared.places.LetterIndex.{LetterIndex}
use Rattle.fsa_subset.proofs.spread.places_on.Goals as goal

pub returns : goal.returns
returns c = λ place.
    let moves = c.args.moves.now in
    let sources = c.in_ok-places.places.items in
    let sorted = c.sort_unstable.new.self.items in
    let moved = c.sort_unstable.ensures.permutation in
    let is = dedup_is eqb sorted c.dedup.new.self.items c.dedup.ensures.filtered in (
      λ h.
          let kept = Contains-permutation sorted sources place (IsPermutation-sym sources sorted moved) (Contains-from_dedup eqb sorted place (subst (λ xs. Contains xs place) is h)) in
          Contains-map_cases (λ (e : Edge LetterIndex). e.from) moves place (subst (λ xs. Contains xs place) c.in_ok-places.ensures kept),
      λ (e, held, from).
          let there = subst (λ xs. Contains xs e.from) (sym c.in_ok-places.ensures) (Contains-map (λ (e : Edge LetterIndex). e.from) moves e held) in
          subst (λ p. Contains c.dedup.new.self.items p) from (subst (λ xs. Contains xs e.from) (sym is) (Contains-dedup_nat sorted e.from (Contains-permutation sources sorted e.from moved there))),
    )
