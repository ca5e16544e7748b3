-- Paths one after another, in more edges, and the other way round.
use Rattle.std.proofs.Common.{◌≡◌, ℕ, List, [], ◌∷◌, ◌++◌, refl, sym, subst, ap, ◌∙◌, append_assoc, option_to_list, map}
use Rattle.std.specs.List.{Contains}
use Rattle.std.specs.List.Sorted.{IsPermutation}
use Rattle.std.proofs.lemmas.List.{append-nil}
use Rattle.std.proofs.lemmas.List.Sorted.{Contains-permutation, IsPermutation-sym}
use Rattle.word_relations.proofs.Members.{Contains-map, Contains-map_cases}
use Rattle.fsa.specs.declared.automaton.Edge.{Edge}
use Rattle.lookup.specs.Graph.{IsPath, letters_of, Connects, Leads}
use Rattle.lookup.specs.Tree.{reversed, AreReversed}

module _ {L : Type 0} (edges : List (Edge L)) where
  pub path-append : (a b c : ℕ) (p q : List (Edge L)) → IsPath edges a p b → IsPath edges b q c → IsPath edges a (p ++ q) c
  path-append a b c [] q h k = subst (λ x. IsPath edges x q c) (sym h) k
  path-append a b c (e ∷ p) q (held, from, rest) k = (held, from, path-append e.to b c p q rest k)

  pub letters-append : (p q : List (Edge L)) → letters_of (p ++ q) ≡ letters_of p ++ letters_of q
  letters-append [] q = refl
  letters-append (e ∷ p) q =
      ap (λ w. option_to_list e.letter ++ w) (letters-append p q) ∙ sym (append_assoc (option_to_list e.letter) (letters_of p) (letters_of q))

  pub connects-append : (a b c : ℕ) (u v : List L) → Connects edges a u b → Connects edges b v c → Connects edges a (u ++ v) c
  connects-append a b c u v (p, hp, is) (q, hq, js) =
      (p ++ q, path-append a b c p q hp hq, letters-append p q ∙ ap (λ w. w ++ letters_of q) is ∙ ap (λ w. u ++ w) js)

  pub leads-append : (a b c : ℕ) → Leads edges a b → Leads edges b c → Leads edges a c
  leads-append a b c (p, hp) (q, hq) = (p ++ q, path-append a b c p q hp hq)

  -- one edge
  pub connects_edge : (e : Edge L) → Contains edges e → Connects edges e.from (option_to_list e.letter) e.to
  connects_edge e h = (e ∷ [], (h, refl, refl), append-nil (option_to_list e.letter))

  pub leads_edge : (e : Edge L) → Contains edges e → Leads edges e.from e.to
  leads_edge e h = (e ∷ [], (h, refl, refl))

  pub leads_from_connects : (a b : ℕ) (w : List L) → Connects edges a w b → Leads edges a b
  leads_from_connects a b w (p, h, is) = (p, h)

-- a path in some edges is one in more
module _ {L : Type 0} (edges more : List (Edge L)) (among : (e : Edge L) → Contains edges e → Contains more e) where
  pub path_among : (a b : ℕ) (p : List (Edge L)) → IsPath edges a p b → IsPath more a p b
  path_among a b [] h = h
  path_among a b (e ∷ p) (held, from, rest) = (among e held, from, path_among e.to b p rest)

  pub connects_among : (a b : ℕ) (w : List L) → Connects edges a w b → Connects more a w b
  connects_among a b w (p, h, is) = (p, path_among a b p h, is)

-- the other way round
module _ {L : Type 0} (edges others : List (Edge L)) (are : AreReversed edges others) where
  pub are_turned_back : AreReversed others edges
  are_turned_back e = ((are (reversed e)).1, (are (reversed e)).0)

  pub leads_turned : (a b : ℕ) (p : List (Edge L)) → IsPath others a p b → Leads edges b a
  leads_turned a b [] h = ([], sym h)
  leads_turned a b (e ∷ p) (held, from, rest) =
      subst (λ x. Leads edges b x) from
      (leads-append edges b e.to e.from (leads_turned e.to b p rest) (leads_edge edges (reversed e) ((are e).0 held)))

pub are_turned : {L : Type 0} (edges others rows : List (Edge L)) → others ≡ map reversed edges → IsPermutation others rows → AreReversed edges rows
are_turned {L = L} edges others rows is moved e = (
  λ h.
      let m : Contains others e = Contains-permutation rows others e (IsPermutation-sym others rows moved) h in
      let r = Contains-map_cases reversed edges e (subst (λ es. Contains es e) is m) in
      let P : Edge L → Type 0 = λ f. Contains edges (reversed f) in
      subst P r.2 r.1,
  λ h. Contains-permutation others rows e moved (subst (λ es. Contains es e) (sym is) (Contains-map reversed edges (reversed e) h)),
)
