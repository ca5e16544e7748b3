-- The sets of states that a word leads to accept what the automaton accepts from their states.
use Rattle.std.proofs.Common.{◌≡◌, ℕ, ◌↔◌, List, [], ◌∷◌, Bool, Some, length, refl, subst, sym}
use Rattle.std.specs.List.{Contains}
use Rattle.word_relations.proofs.Places.{same_at}
use Rattle.fsa.specs.Automaton.{Automaton, UsesLetter}
use Rattle.fsa.specs.Complete as complete
use Rattle.fsa.specs.Complete.{Complete}
use Rattle.fsa.specs.Language.{AcceptsFrom, Accepts, stop, read, skip}
use Rattle.fsa.specs.declared.automaton.Edge.{Edge}
use Rattle.fsa_explore.specs.Reaches.{Reaches, here, along}
use Rattle.fsa_explore.proofs.Built.{IsLanguage, built_language}
use Rattle.fsa_subset.specs.Placed.{Goes, IsPlaced}
use Rattle.fsa_subset.specs.Sets.{Placed, IsStateSet, LeadsTo, IsFinalSet, IsSubsetBuilt}
use Rattle.fsa_subset.specs.declared.places.LetterIndex.{LetterIndex}

-- some state of the set accepts the word
abbrev pub WordsOf : {L : Type 0} → Automaton L → List ℕ → List L → Type 0
WordsOf m set w = (p : ℕ) × Contains set p × AcceptsFrom m p w

module _ {L : Type 0} (m : Automaton L) (letters : List L) (edges : List (Edge LetterIndex)) (placed : IsPlaced letters m.edges edges) (all : (x : L) → UsesLetter m x → Contains letters x) where
  abbrev of_places : Placed
  of_places = record { edges = edges; finals = m.finals; letters = length letters }

  -- an empty path stays in the set
  final_state : (set : List ℕ) → IsStateSet of_places set → {p : ℕ} {w : List L} → AcceptsFrom m p w → w ≡ [] → Contains set p → IsFinalSet of_places set
  final_state set is {p} (stop h) e held = (p, held, h)
  final_state set is (read {x = x} {w = w} edge rest) e held = let long : x ∷ w ≡ [] = e in absurd (cc)
  final_state set is {p} (skip {q = q} edge rest) e held = final_state set is rest e (is.closed p q held ((placed.epsilon p q).1 edge))

  -- the first letter leaves the set by one of its edges
  first_letter : (set : List ℕ) → IsStateSet of_places set → (x : L) (w : List L) → {p : ℕ} {v : List L} → AcceptsFrom m p v → v ≡ x ∷ w → Contains set p → (p : ℕ) × (r : ℕ) × Contains set p × Goes m.edges p (Some x) r × AcceptsFrom m r w
  first_letter set is x w {p} (stop h) e held = let long : [] ≡ x ∷ w = e in absurd (cc)
  first_letter set is x w {p} (read {q = q} {x = y} {w = v} edge rest) e held =
      let parts : y ∷ v ≡ x ∷ w = e in
      let head : y ≡ x = cc in
      let tail : v ≡ w = cc in
      (p, q, held, subst (λ z. Goes m.edges p (Some z) q) head edge, subst (λ u. AcceptsFrom m q u) tail rest)
  first_letter set is x w {p} (skip {q = q} edge rest) e held = first_letter set is x w rest e (is.closed p q held ((placed.epsilon p q).1 edge))

  -- epsilon edges before a path
  pub epsilon_first : (w : List L) → {p q : ℕ} → Reaches edges p q → AcceptsFrom m q w → AcceptsFrom m p w
  epsilon_first w here h = h
  epsilon_first w {p} (along {q = q} edge rest) h = skip ((placed.epsilon p q).0 edge) (epsilon_first w rest h)

  pub sets_language : IsLanguage letters (IsStateSet of_places) (LeadsTo of_places) (IsFinalSet of_places) (WordsOf m)
  sets_language = record {
    empty = λ set is. (λ h. final_state set is h.2 refl h.1, λ h. (h.0, h.1, stop h.2));
    longer = λ set to place x w is leads at. (
      λ h.
          let f = first_letter set is x w h.2 refl h.1 in
          (f.1, (leads f.1).1 (f.1, (f.0, f.2, placed.all f.0 place f.1 x at f.3), here), f.4),
      λ h.
          let s = (leads h.0).0 h.1 in
          let r : ℕ = s.0 in
          let p : ℕ = s.1.0 in
          let o = placed.only p place r s.1.2 in
          let same : o.0 ≡ x = same_at letters place o.0 x o.1 at in
          (p, s.1.1, read (subst (λ z. Goes m.edges p (Some z) r) same o.2) (epsilon_first w s.2 h.2)),
    );
    over = λ set x w is h.
        let f = first_letter set is x w h.2 refl h.1 in
        all x (record { from = f.0; letter = Some x; to = f.1 }, f.3, refl);
  }

  -- the epsilon closure of the start accepts what the automaton accepts
  pub start_words : (start : List ℕ) → ((q : ℕ) → Contains start q ↔ Reaches edges 0 q) → (w : List L) → WordsOf m start w ↔ Accepts m w
  start_words start is w = (λ h. epsilon_first w ((is h.0).0 h.1) h.2, λ h. (0, (is 0).1 here, h))

-- the automaton that was built over the sets has the language
pub determined : {L : Type 0} (m : Automaton L) (letters : List L) (edges : List (Edge L)) (rows : List (Edge LetterIndex)) (finals marks : List Bool) (next : List ℕ) → IsPlaced letters edges rows → edges ≡ m.edges → finals ≡ m.finals → ((x : L) → UsesLetter m x → Contains letters x) → IsSubsetBuilt (record { edges = rows; finals = finals; letters = length letters }) next marks → (d : Complete L) (same : List L) → same ≡ letters → d ≡ record { letters = same; next = next; finals = marks } → (w : List L) → complete.Accepts d w ↔ Accepts m w
determined {L} m letters edges rows finals marks next placed is_edges is_finals all built d same is_same is w =
    let of : Placed = record { edges = rows; finals = m.finals; letters = length letters } in
    let here_placed : IsPlaced letters m.edges rows = subst (λ es. IsPlaced letters es rows) is_edges placed in
    let here_built : IsSubsetBuilt of next marks = subst (λ fs. IsSubsetBuilt (record { edges = rows; finals = fs; letters = length letters }) next marks) is_finals built in
    let start : List ℕ = here_built.0 in
    let by_sets = built_language letters (IsStateSet of) (LeadsTo of) (IsFinalSet of) (WordsOf m) (sets_language m letters rows here_placed all) start next marks here_built.2 w in
    let by_start = start_words m letters rows here_placed all start here_built.1 w in
    let here : (complete.Accepts (record { letters = letters; next = next; finals = marks }) w) ↔ Accepts m w = (λ h. by_start.0 (by_sets.0 h), λ h. by_sets.1 (by_start.1 h)) in
    let there : (complete.Accepts (record { letters = same; next = next; finals = marks }) w) ↔ Accepts m w = subst (λ xs. (complete.Accepts (record { letters = xs; next = next; finals = marks }) w) ↔ Accepts m w) (sym is_same) here in
    subst (λ y. complete.Accepts y w ↔ Accepts m w) (sym is) there
