-- The edges on paths from the start to the end write what all edges write.
use Rattle.std.proofs.Common.{◌≡◌, ℕ, ◌+◌, ◌<◌, ◌≤◌, ◌↔◌, List, [], ◌∷◌, ◌++◌, length, get_or, take, refl, sym, subst, ap, inl, inr, ◌∙◌}
use Rattle.std.specs.List.{Contains}
use Rattle.std.specs.List.Sorted.{IsPermutation}
use Rattle.std.proofs.lemmas.List.{take_more, take_all}
use Rattle.std.proofs.lemmas.List.Sorted.{Contains-permutation, IsPermutation-sym}
use Rattle.std.proofs.lemmas.List.Elements.{Contains-push_cases, Contains-push, Contains-append_left}
use Rattle.word_relations.proofs.Members.{Contains-nil_cases}
use Rattle.fsa.specs.declared.automaton.Edge.{Edge}
use Rattle.lookup.specs.Graph.{AreUseful, IsPath, IsWithin, Leads, Writes, start, end}
use Rattle.lookup.specs.Tree.{AreReversed, IsTree, reversed}
use Rattle.lookup.specs.declared.tree.Tree.{Tree}
use Rattle.lookup.proofs.GraphPaths.{are_turned_back, leads-append, leads_edge, leads_turned, connects_among, path_among}

-- the elements with a property, from the front of a list
module _ {X : Type 0} (xs : List X) (P : X → Type 0) where
  abbrev pub IsKept : ℕ → List X → Type 0
  IsKept i kept = (x : X) → Contains kept x ↔ (Contains (take i xs) x × P x)

  pub kept_first : IsKept 0 []
  kept_first x = (λ h. absurd (Contains-nil_cases x h), λ h. absurd (Contains-nil_cases x h.0))

  module _ (i : ℕ) (kept : List X) (k : IsKept i kept) (y : X) (inside : i < length xs) (at : y ≡ get_or xs i y) where
    front : take (i + 1) xs ≡ take i xs ++ y ∷ []
    front = take_more xs i y inside ∙ ap (λ z. take i xs ++ z ∷ []) (sym at)

    earlier : (x : X) → Contains (take i xs) x → Contains (take (i + 1) xs) x
    earlier x h = subst (λ ys. Contains ys x) (sym front) (Contains-append_left (take i xs) (y ∷ []) x h)

    pub kept_more : P y → IsKept (i + 1) (kept ++ y ∷ [])
    kept_more holds x = (
      λ h. elim (Contains-push_cases kept y x h) [
        | inl old ↦ (earlier x ((k x).0 old).0, ((k x).0 old).1)
        | inr same ↦ (subst (λ z. Contains (take (i + 1) xs) z) same (subst (λ ys. Contains ys y) (sym front) (Contains-push (take i xs) y)), subst P same holds)
      ],
      λ h. elim (Contains-push_cases (take i xs) y x (subst (λ ys. Contains ys x) front h.0)) [
        | inl old ↦ Contains-append_left kept (y ∷ []) x ((k x).1 (old, h.1))
        | inr same ↦ subst (λ z. Contains (kept ++ y ∷ []) z) same (Contains-push kept y)
      ],
    )

    pub kept_past : ¬ P y → IsKept (i + 1) kept
    kept_past fails x = (
      λ h. (earlier x ((k x).0 h).0, ((k x).0 h).1),
      λ h. elim (Contains-push_cases (take i xs) y x (subst (λ ys. Contains ys x) front h.0)) [
        | inl old ↦ (k x).1 (old, h.1)
        | inr same ↦ absurd (fails (subst P (sym same) h.1))
      ],
    )

  pub kept_all : (i : ℕ) (kept : List X) → length xs ≤ i → IsKept i kept → (x : X) → Contains kept x ↔ (Contains xs x × P x)
  kept_all i kept past k x = subst (λ ys. Contains kept x ↔ (Contains ys x × P x)) (take_all i xs past) (k x)

module _ {L : Type 0} (edges kept : List (Edge L)) (is : (e : Edge L) → Contains kept e ↔ (Contains edges e × (Leads edges start e.from × Leads edges e.to end))) where
  pub kept_among : (e : Edge L) → Contains kept e → Contains edges e
  kept_among e h = ((is e).0 h).0

  -- a path from where the start leads to where the end is reached from is kept
  path_kept : (a b : ℕ) (p : List (Edge L)) → IsPath edges a p b → Leads edges start a → Leads edges b end → IsPath kept a p b
  path_kept a b [] h comes leaves = h
  path_kept a b (e ∷ p) (held, from, rest) comes leaves =
      let here : Leads edges start e.from = subst (λ x. Leads edges start x) (sym from) comes in
      let on : Leads edges e.to end = leads-append edges e.to b end (p, rest) leaves in (
        (is e).1 (held, (here, on)),
        from,
        path_kept e.to b p rest (leads-append edges start e.from e.to here (leads_edge edges e held)) leaves,
      )

  pub kept_useful : AreUseful kept
  kept_useful e h =
      let r = ((is e).0 h).1 in
      let held = ((is e).0 h).0 in (
        (r.0.0, path_kept start e.from r.0.0 r.0.1 ([], refl) (leads-append edges e.from e.to end (leads_edge edges e held) r.1)),
        (r.1.0, path_kept e.to end r.1.0 r.1.1 (leads-append edges start e.from e.to r.0 (leads_edge edges e held)) ([], refl)),
      )

  pub kept_same : (word : List L) → Writes kept word ↔ Writes edges word
  kept_same word = (
    connects_among kept edges kept_among start end word,
    λ (p, h, letters). (p, path_kept start end p h ([], refl) ([], refl), letters),
  )

-- trees over the edges in another order, and over the edges the other way round
module _ {L : Type 0} (edges rows : List (Edge L)) (moved : IsPermutation edges rows) where
  pub within_moved : (count : ℕ) → IsWithin edges count → IsWithin rows count
  within_moved count within e h = within e (Contains-permutation rows edges e (IsPermutation-sym edges rows moved) h)

  pub tree_from : (root : ℕ) (tree : Tree L) → IsTree rows root tree → (q : ℕ) → Contains tree.reached.found q ↔ Leads edges root q
  tree_from root tree t q = (
    λ h. let r = (t.nodes q).0 h in (r.0, path_among rows edges (λ e. Contains-permutation rows edges e (IsPermutation-sym edges rows moved)) root q r.0 r.1),
    λ (p, h). (t.nodes q).1 (p, path_among edges rows (λ e. Contains-permutation edges rows e moved) root q p h),
  )

module _ {L : Type 0} (edges rows : List (Edge L)) (are : AreReversed edges rows) where
  pub within_turned : (count : ℕ) → IsWithin edges count → IsWithin rows count
  within_turned count within e h = let r = within (reversed e) ((are e).0 h) in (r.1, r.0)

  pub tree_to : (root : ℕ) (tree : Tree L) → IsTree rows root tree → (q : ℕ) → Contains tree.reached.found q ↔ Leads edges q root
  tree_to root tree t q = (
    λ h. let r = (t.nodes q).0 h in leads_turned edges rows are root q r.0 r.1,
    λ (p, h). (t.nodes q).1 (leads_turned rows edges (are_turned_back edges rows are) q root p h),
  )

-- the edges between what the start leads to and what leads to the end
pub between_is : {L : Type 0} (edges kept : List (Edge L)) (left entered : List ℕ)
    → ((q : ℕ) → Contains left q ↔ Leads edges start q) → ((q : ℕ) → Contains entered q ↔ Leads edges q end)
    → ((e : Edge L) → Contains kept e ↔ (Contains edges e × (Contains left e.from × Contains entered e.to)))
    → (e : Edge L) → Contains kept e ↔ (Contains edges e × (Leads edges start e.from × Leads edges e.to end))
between_is edges kept left entered l r is e = (
  λ h. let k = (is e).0 h in (k.0, ((l e.from).0 k.1.0, (r e.to).0 k.1.1)),
  λ h. (is e).1 (h.0, ((l e.from).1 h.1.0, (r e.to).1 h.1.1)),
)
