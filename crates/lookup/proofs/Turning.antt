-- Loops with letters: what shows one, what shows that there is none, and what they write.
use Rattle.std.proofs.Common.{◌≡◌, ℕ, zero, suc, ◌+◌, ◌<◌, ◌≤◌, List, [], ◌∷◌, ◌++◌, None, Some, IsSome, length, refl, sym, subst, ap, inl, inr, arith, take, get_or, ◌∙◌, length-append, option_to_list}
use Rattle.std.specs.List.{Contains, slice_index}
use Rattle.std.proofs.lemmas.List.{take_all, take_more}
use Rattle.std.proofs.lemmas.List.Elements.{Contains-push_cases}
use Rattle.word_relations.proofs.Members.{Contains-nil_cases}
use Rattle.fsa.specs.declared.automaton.Edge.{Edge}
use Rattle.lookup.specs.Graph.{IsPath, Connects, Leads, Writes, letters_of, start, end}
use Rattle.lookup.specs.Turns.{AreLevels, HasNoTurn, IsOnTurn, IsTurn, rounds}
use Rattle.lookup.proofs.GraphPaths.{connects-append, connects_edge, leads-append, leads_edge}

module _ {L : Type 0} (edges : List (Edge L)) where
  -- an edge with a letter, where to from a node, and whence to another
  pub record Lettered (a b : ℕ) : Type 0 where
    pub edge : Edge L
    pub held : Contains edges edge
    pub letter : IsSome edge.letter
    pub to_it : Leads edges a edge.from
    pub from_it : Leads edges edge.to b

  -- a path with letters has an edge with a letter
  pub lettered : (a b : ℕ) (p : List (Edge L)) → IsPath edges a p b → 0 < length (letters_of p) → Lettered a b
  lettered a b [] h some = absurd (omega arith)
  lettered a b (e ∷ p) (held, from, rest) some =
      elim e.letter as (λ o. e.letter ≡ o → 0 < length (option_to_list o ++ letters_of p) → Lettered a b) [
        | None ↦ λ is some.
            let r = lettered e.to b p rest some in
            record {
              edge = r.edge;
              held = r.held;
              letter = r.letter;
              to_it = subst (λ x. Leads edges x r.edge.from) from (leads-append edges e.from e.to r.edge.from (leads_edge edges e held) r.to_it);
              from_it = r.from_it;
            }
        | Some x ↦ λ is _. record {
          edge = e;
          held = held;
          letter = subst (λ o. IsSome o) (sym is) refl;
          to_it = ([], sym from);
          from_it = (p, rest);
        }
      ] refl some

  -- a loop has an edge with a letter
  pub on_turn : (before round after : List L) → IsTurn edges before round after → (e : Edge L) × Contains edges e × IsOnTurn edges e
  on_turn before round after t =
      let round_path = t.goes_round.0 in
      let some : 0 < length (letters_of round_path) = subst (λ w. 0 < length w) (sym t.goes_round.2) t.some in
      let r = lettered t.node t.node round_path t.goes_round.1 some in
      let comes : Leads edges start t.node = (t.comes.0, t.comes.1) in
      let leaves : Leads edges t.node end = (t.leaves.0, t.leaves.1) in (
        r.edge,
        r.held,
        record {
          letter = r.letter;
          comes = leads-append edges start t.node r.edge.from comes r.to_it;
          goes_round = leads-append edges r.edge.to t.node r.edge.from r.from_it r.to_it;
          leaves = leads-append edges r.edge.from r.edge.to end (leads_edge edges r.edge r.held) (leads-append edges r.edge.to t.node end r.from_it leaves);
        },
      )

  pub no_turn_from_edges : ((e : Edge L) → Contains edges e → ¬ IsOnTurn edges e) → HasNoTurn edges
  no_turn_from_edges none before round after t = let r = on_turn before round after t in none r.0 r.1 r.2

  -- a loop from its parts
  pub turn_from : (e : Edge L) (x : L) → Contains edges e → e.letter ≡ Some x → (before back after : List L)
      → Connects edges start before e.from → Connects edges e.to back e.from → Connects edges e.from after end → IsTurn edges before (x ∷ back) after
  turn_from e x held is before back after comes goes leaves =
      let step : Connects edges e.from (x ∷ []) e.to = subst (λ w. Connects edges e.from w e.to) (ap option_to_list is) (connects_edge edges e held) in
      record {
        node = e.from;
        comes = comes;
        goes_round = connects-append edges e.from e.to e.from (x ∷ []) back step goes;
        leaves = leaves;
        some = omega arith;
      }

  -- levels
  module _ (levels : List ℕ) (are : AreLevels edges levels) where
    pub level_path : (a b : ℕ) (p : List (Edge L)) → IsPath edges a p b → slice_index levels b ≤ slice_index levels a
    level_path a b [] h = let e : slice_index levels a ≡ slice_index levels b = ap (λ n. slice_index levels n) h in omega arith
    level_path a b (e ∷ p) (held, from, rest) =
        let first = are.not_above e held in
        let more = level_path e.to b p rest in
        let same : slice_index levels e.from ≡ slice_index levels a = ap (λ n. slice_index levels n) from in omega arith

    pub no_turn_from_levels : HasNoTurn edges
    no_turn_from_levels = no_turn_from_edges (λ e held t.
        let fall = are.below e held t.letter in
        let back = level_path e.to e.from t.goes_round.0 t.goes_round.1 in omega arith)

  -- any number of rounds
  pub go_rounds : (m node : ℕ) (round : List L) → Connects edges node round node → Connects edges node (rounds m round) node
  go_rounds zero node round h = ([], refl, refl)
  go_rounds (suc m) node round h = connects-append edges node node node round (rounds m round) h (go_rounds m node round h)

  pub goes_round : (before round after : List L) → IsTurn edges before round after → (m : ℕ) → Writes edges (before ++ (rounds m round ++ after))
  goes_round before round after t m =
      connects-append edges start t.node end before (rounds m round ++ after) t.comes
      (connects-append edges t.node t.node end (rounds m round) after (go_rounds m t.node round t.goes_round) t.leaves)

  length-rounds : (m : ℕ) (round : List L) → 0 < length round → m ≤ length (rounds m round)
  length-rounds zero round some = omega arith
  length-rounds (suc m) round some =
      let more = length-rounds m round some in
      let e = length-append round (rounds m round) in omega arith

  -- words that are no longer than a bound show that there is no loop
  pub no_turn_from_bound : (bound : ℕ) → ((word : List L) → Writes edges word → length word ≤ bound) → HasNoTurn edges
  no_turn_from_bound bound short before round after t =
      let word = rounds (suc bound) round ++ after in
      let l = short (before ++ word) (goes_round before round after t (suc bound)) in
      let long = length-rounds (suc bound) round t.some in
      let e = length-append before word in
      let f = length-append (rounds (suc bound) round) after in omega arith

-- levels of one edge more
module _ {L : Type 0} (levels : List ℕ) where
  pub levels_first : (edges : List (Edge L)) → AreLevels (take 0 edges) levels
  levels_first edges = record {
    not_above = λ e h. absurd (Contains-nil_cases e h);
    below = λ e h _. absurd (Contains-nil_cases e h);
  }

  pub levels_more : (edges : List (Edge L)) (i : ℕ) (e : Edge L) → i < length edges → e ≡ get_or edges i e → AreLevels (take i edges) levels
      → slice_index levels e.to ≤ slice_index levels e.from → (IsSome e.letter → slice_index levels e.to < slice_index levels e.from) → AreLevels (take (i + 1) edges) levels
  levels_more edges i e inside at are not_above below =
      let front : take (i + 1) edges ≡ take i edges ++ e ∷ [] = take_more edges i e inside ∙ ap (λ z. take i edges ++ z ∷ []) (sym at) in
      record {
        not_above = λ f h. elim (Contains-push_cases (take i edges) e f (subst (λ es. Contains es f) front h)) [
          | inl old ↦ are.not_above f old
          | inr same ↦ subst (λ x. slice_index levels x.to ≤ slice_index levels x.from) same not_above
        ];
        below = λ f h. elim (Contains-push_cases (take i edges) e f (subst (λ es. Contains es f) front h)) [
          | inl old ↦ are.below f old
          | inr same ↦ subst (λ x. IsSome x.letter → slice_index levels x.to < slice_index levels x.from) same below
        ];
      }

  pub levels_all : (edges : List (Edge L)) (i : ℕ) → length edges ≤ i → AreLevels (take i edges) levels → AreLevels edges levels
  levels_all edges i past are = subst (λ es. AreLevels es levels) (take_all i edges past) are

-- no edge of a front is on a loop
module _ {L : Type 0} (edges : List (Edge L)) where
  abbrev pub AreFree : ℕ → Type 0
  AreFree i = (e : Edge L) → Contains (take i edges) e → ¬ IsOnTurn edges e

  pub free_first : AreFree 0
  free_first e h = absurd (Contains-nil_cases e h)

  pub free_more : (i : ℕ) (e : Edge L) → i < length edges → e ≡ get_or edges i e → AreFree i → ¬ IsOnTurn edges e → AreFree (i + 1)
  free_more i e inside at free next f h =
      let front : take (i + 1) edges ≡ take i edges ++ e ∷ [] = take_more edges i e inside ∙ ap (λ z. take i edges ++ z ∷ []) (sym at) in
      elim (Contains-push_cases (take i edges) e f (subst (λ es. Contains es f) front h)) [
        | inl old ↦ free f old
        | inr same ↦ subst (λ x. ¬ IsOnTurn edges x) same next
      ]

  pub free_all : (i : ℕ) → length edges ≤ i → AreFree i → HasNoTurn edges
  free_all i past free = no_turn_from_edges edges (λ e h. free e (subst (λ es. Contains es e) (sym (take_all i edges past)) h))
