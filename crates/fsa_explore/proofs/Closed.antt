-- Epsilon closure: what the edges of one state after another add, and that nothing is left to add when each state
-- was looked at.
use Rattle.std.proofs.Common.{◌≡◌, ℕ, ◌+◌, ◌<◌, ◌≤◌, ◌↔◌, List, [], ◌∷◌, ◌++◌, Option, None, length, get_or, take, refl, subst, sym, ap, inl, inr, arith, ◌∙◌, length-append}
use Rattle.std.specs.List.{Contains}
use Rattle.std.proofs.lemmas.List.{take_more, take_all, take-append-le}
use Rattle.std.proofs.lemmas.List.Elements.{Contains-push_cases}
use Rattle.word_relations.proofs.Members.{Contains-nil_cases}
use Rattle.fsa.specs.declared.automaton.Edge.{Edge}
use Rattle.fsa_explore.specs.Marks.{Marks, Adds, Grows}
use Rattle.fsa_explore.specs.Reaches.{Reaches, IsReached, here, along}
use Rattle.fsa_explore.specs.Targets.{IsTarget}
use Rattle.fsa_explore.proofs.Added.{Grows-none, Grows-then, Grows-keeps}

module _ {L : Type 0} (edges : List (Edge L)) where
  -- one epsilon edge more
  pub Reaches-push : {p q : ℕ} (r : ℕ) → Reaches edges p q → Contains edges (record { from = q; letter = None; to = r }) → Reaches edges p r
  Reaches-push r here h = along h here
  Reaches-push r (along e rest) h = along e (Reaches-push r rest h)

  -- what an epsilon edge of a state enters
  abbrev pub IsNext : ℕ → ℕ → Type 0
  IsNext p q = Contains edges (record { from = p; letter = None; to = q })

  -- the epsilon edges that leave a state, as `EdgesByState::epsilon_out` gives them
  pub target_next : (out : List (Edge L)) (p : ℕ) → ((e : Edge L) → Contains out e ↔ (Contains edges e × (e.from ≡ p) × (e.letter ≡ None))) → (q : ℕ) → IsTarget out None q → IsNext p q
  target_next out p is q (e, held, letter, to) =
      let r = (is e).0 held in
      let P : ℕ → Option L → ℕ → Type 0 = λ a b c. Contains edges (record { from = a; letter = b; to = c }) in
      subst (λ a. P a None q) r.1 (subst (λ b. P e.from b q) letter (subst (λ c. P e.from e.letter c) to r.0))

  pub next_target : (out : List (Edge L)) (p : ℕ) → ((e : Edge L) → Contains out e ↔ (Contains edges e × (e.from ≡ p) × (e.letter ≡ None))) → (q : ℕ) → IsNext p q → IsTarget out None q
  next_target out p is q held = (record { from = p; letter = None; to = q }, (is (record { from = p; letter = None; to = q })).1 (held, refl, refl), refl, refl)

-- the states before a place were looked at
pub record IsClosing {L : Type 0} (edges : List (Edge L)) (start now : Marks) (place : ℕ) : Type 0 where
  pub grows : Grows start now (IsReached edges start.found)
  pub looked : (p q : ℕ) → Contains (take place now.found) p → IsNext edges p q → Contains now.found q
  pub place_within : place ≤ length now.found

module _ {L : Type 0} (edges : List (Edge L)) (start : Marks) where
  pub closing_none : IsClosing edges start start 0
  closing_none = record {
    grows = Grows-none start (IsReached edges start.found);
    looked = λ p q h _. absurd (Contains-nil_cases p h);
    place_within = omega arith;
  }

  -- what is reached by one edge from a state that was found
  module _ (now : Marks) (i : ℕ) (c : IsClosing edges start now i) (p : ℕ) (inside : i < length now.found) (at : p ≡ get_or now.found i p) where
    found_at : Contains now.found p
    found_at = (i, inside, sym at)

    pub next_reached : (q : ℕ) → IsNext edges p q → IsReached edges start.found q
    next_reached q step = elim (c.grows.only p found_at) [
      | inl old ↦ (p, old, along step here)
      | inr r ↦ (r.0, r.1, Reaches-push edges q r.2 step)
    ]

    pub closing_grows : (new : Marks) → Grows now new (IsNext edges p) → Grows start new (IsReached edges start.found)
    closing_grows new g =
        Grows-then start now new (IsReached edges start.found) (IsNext edges p) (IsReached edges start.found) (λ k r. r) next_reached c.grows g

    pub closing_more : (new : Marks) → Adds now new (IsNext edges p) → IsClosing edges start new (i + 1)
    closing_more new a =
        let more : List ℕ = a.grows.grown.0 in
        let is : new.found ≡ now.found ++ more = a.grows.grown.1 in
        let long : length new.found ≡ length now.found + length more = ap length is ∙ length-append now.found more in
        let front : take (i + 1) new.found ≡ take i now.found ++ p ∷ [] =
        ap (take (i + 1)) is ∙ take-append-le (i + 1) now.found more (omega arith) ∙ take_more now.found i p inside ∙ ap (λ y. take i now.found ++ y ∷ []) (sym at) in
        record {
          grows = closing_grows new a.grows;
          looked = λ u q h step. elim (Contains-push_cases (take i now.found) p u (subst (λ ks. Contains ks u) front h)) [
            | inl before ↦ Grows-keeps now new (IsNext edges p) a.grows q (c.looked u q before step)
            | inr same ↦ a.all q (subst (λ v. IsNext edges v q) (sym same) step)
          ];
          place_within = omega arith;
        }

  reached_found : (now : Marks) → ((p q : ℕ) → Contains now.found p → IsNext edges p q → Contains now.found q) → {p q : ℕ} → Reaches edges p q → Contains now.found p → Contains now.found q
  reached_found now closed here h = h
  reached_found now closed (along {p = p} {q = q} e rest) h = reached_found now closed rest (closed p q h e)

  pub closing_all : (now : Marks) (i : ℕ) → IsClosing edges start now i → length now.found ≤ i → Adds start now (IsReached edges start.found)
  closing_all now i c past =
      let whole : take i now.found ≡ now.found = take_all i now.found past in
      record {
        grows = c.grows;
        all = λ k r. reached_found now (λ p q h. c.looked p q (subst (λ ks. Contains ks p) (sym whole) h)) r.2 (Grows-keeps start now (IsReached edges start.found) c.grows r.0 r.1);
      }
