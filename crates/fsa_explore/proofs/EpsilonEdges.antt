-- The epsilon edges of a list of edges.
use Rattle.std.proofs.Common.{◌≡◌, ℕ, ◌↔◌, List, [], ◌∷◌, Bool, Option, Some, None, true, false, cond, refl, subst, sym, ap, inl, inr, ◌∙◌}
use Rattle.std.specs.List.{Contains, filter}
use Rattle.std.specs.List.Sorted.{IsNonDecreasingBy}
use Rattle.std.specs.Option.{is_none}
use Rattle.std.proofs.lemmas.List.Elements.{All-filter, All-contains, All-contains_itself, filter_passes}
use Rattle.std.proofs.lemmas.List.Kept.{IsNonDecreasingBy-filter}
use Rattle.word_relations.proofs.Members.{Contains-nil_cases, Contains-cons_cases, Contains-head, Contains-tail}
use Rattle.fsa.specs.declared.automaton.Edge.{Edge}
use Rattle.fsa_explore.specs.Epsilon.{is_epsilon}

none_from : {X : Type 0} (o : Option X) → is_none o ≡ true → o ≡ None
none_from None h = refl
none_from (Some x) h = absurd (cc)

filter_has : {X : Type 0} (p : X → Bool) (xs : List X) (x : X) → Contains xs x → p x ≡ true → Contains (filter p xs) x
filter_has p [] x h passes = absurd (Contains-nil_cases x h)
filter_has p (y ∷ ys) x h passes =
    elim (Contains-cons_cases y ys x h) [
      | inl same ↦
          subst (λ b. Contains (cond b (y ∷ filter p ys) (filter p ys)) x) (sym (ap p same ∙ passes))
          (subst (λ z. Contains (y ∷ filter p ys) z) same (Contains-head y (filter p ys)))
      | inr later ↦ kept (p y) (filter_has p ys x later passes)
    ]
  where
    kept : (b : Bool) → Contains (filter p ys) x → Contains (cond b (y ∷ filter p ys) (filter p ys)) x
    kept true held = Contains-tail y (filter p ys) x held
    kept false held = held

-- the epsilon ones are in order where the edges are, and an edge is one of them where it has no letter
module _ {L : Type 0} (edges epsilon : List (Edge L)) (are : epsilon ≡ filter is_epsilon edges) where
  pub epsilon_sorted : IsNonDecreasingBy (λ e. e.from) edges → IsNonDecreasingBy (λ e. e.from) epsilon
  epsilon_sorted sorted = subst (IsNonDecreasingBy (λ e. e.from)) (sym are) (IsNonDecreasingBy-filter (λ e. e.from) is_epsilon edges sorted)

  pub epsilon_is : (e : Edge L) → Contains epsilon e ↔ (Contains edges e × (e.letter ≡ None))
  epsilon_is e = (
    λ h.
        let held : Contains (filter is_epsilon edges) e = subst (λ es. Contains es e) are h in (
          All-contains (Contains edges) (filter is_epsilon edges) e (All-filter is_epsilon (Contains edges) edges (All-contains_itself edges)) held,
          none_from e.letter (All-contains (λ x. is_epsilon x ≡ true) (filter is_epsilon edges) e (filter_passes is_epsilon edges) held),
        ),
    λ h. subst (λ es. Contains es e) (sym are) (filter_has is_epsilon edges e h.0 (ap is_none h.1)),
  )

  pub epsilon_row : (row : List (Edge L)) (state : ℕ) → ((e : Edge L) → Contains row e ↔ (Contains epsilon e × (e.from ≡ state))) → (e : Edge L) → Contains row e ↔ (Contains edges e × (e.from ≡ state) × (e.letter ≡ None))
  epsilon_row row state is e = (
    λ h. let r = (is e).0 h in let s = (epsilon_is e).0 r.0 in (s.0, r.1, s.1),
    λ h. (is e).1 ((epsilon_is e).1 (h.0, h.2), h.1),
  )
