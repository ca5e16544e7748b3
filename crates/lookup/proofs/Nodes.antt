-- The graph of an automaton writes the words that it accepts: the state q is the node q + 1.
use Rattle.std.proofs.Common.{◌≡◌, ℕ, ◌+◌, ◌<◌, ◌≤◌, ◌↔◌, ◌⊎◌, List, [], ◌∷◌, ◌++◌, Bool, true, Option, None, Some, length, map, refl, subst, sym, ap, inl, inr, arith, ◌∙◌}
use Rattle.std.specs.List.{Contains, slice_get}
use Rattle.std.specs.Option.{option_to_list}
use Rattle.std.proofs.lemmas.List.Elements.{Contains-push_cases, Contains-push, Contains-append_left}
use Rattle.std.proofs.lemmas.Bool.{cases_eq}
use Rattle.std.proofs.lemmas.Option.{slice_get_within}
use Rattle.fsm_base.specs.declared.letters.Sym.{Sym}
use Rattle.word_relations.proofs.Members.{Contains-map, Contains-map_cases}
use Rattle.fsa.specs.Automaton.{Automaton, IsWellFormed, UsesLetter}
use Rattle.fsa.specs.Language.{Accepts, AcceptsFrom, stop, read, skip}
use Rattle.fsa.specs.declared.automaton.Edge.{Edge}
use Rattle.lookup.specs.Graph.{Connects, IsPath, IsWithin, Writes, end, letters_of}
use Rattle.lookup.specs.Obeyed.{AreGraphOf, HasLetter, IsClosing, closing, raised}

module _ (a : Automaton Sym) (edges : List (Edge Sym)) (are : AreGraphOf a edges) where
  from_end : (path : List (Edge Sym)) → IsPath edges end path end → letters_of path ≡ []
  from_end [] is = refl
  from_end (e ∷ path) (held, from, rest) = elim ((are e).0 held) [
    | inl (x, has, is) ↦ let up : e.from ≡ x.from + 1 = ap (λ (y : Edge Sym). y.from) is in absurd (omega arith)
    | inr (q, final, is) ↦ let up : e.from ≡ q + 1 = ap (λ (y : Edge Sym). y.from) is in absurd (omega arith)
  ]

  one : (p q : ℕ) (letter : Option Sym) (w : List Sym) → Contains a.edges (record { from = p; letter = letter; to = q }) → AcceptsFrom a q w → AcceptsFrom a p (option_to_list letter ++ w)
  one p q None w held rest = skip held rest
  one p q (Some s) w held rest = read held rest

  to_word : (path : List (Edge Sym)) (n : ℕ) → IsPath edges (n + 1) path end → AcceptsFrom a n (letters_of path)
  to_word [] n is = absurd (omega arith)
  to_word (e ∷ path) n (held, from, rest) = elim ((are e).0 held) [
    | inl (x, has, is) ↦
        let up : e.from ≡ x.from + 1 = ap (λ (y : Edge Sym). y.from) is in
        let here : x.from ≡ n = omega arith in
        let letter : x.letter ≡ e.letter = sym (ap (λ (y : Edge Sym). y.letter) is) in
        let behind : AcceptsFrom a x.to (letters_of path) = to_word path x.to (subst (λ k. IsPath edges k path end) (ap (λ (y : Edge Sym). y.to) is) rest) in
        subst (λ k. AcceptsFrom a k (option_to_list e.letter ++ letters_of path)) here
        (subst (λ l. AcceptsFrom a x.from (option_to_list l ++ letters_of path)) letter (one x.from x.to x.letter (letters_of path) has behind))
    | inr (q, final, is) ↦
        let up : e.from ≡ q + 1 = ap (λ (y : Edge Sym). y.from) is in
        let here : q ≡ n = omega arith in
        let none : e.letter ≡ None = ap (λ (y : Edge Sym). y.letter) is in
        let empty : letters_of path ≡ [] = from_end path (subst (λ k. IsPath edges k path end) (ap (λ (y : Edge Sym). y.to) is) rest) in
        let no_letters : [] ≡ option_to_list e.letter ++ letters_of path = sym (ap (λ l. option_to_list l ++ letters_of path) none ∙ empty) in
        subst (λ w. AcceptsFrom a n w) no_letters (subst (λ k. AcceptsFrom a k []) here (stop final))
  ]

  to_path : {n : ℕ} {w : List Sym} → AcceptsFrom a n w → Connects edges (n + 1) w end
  to_path {n} (stop final) = (closing n ∷ [], ((are (closing n)).1 (inr (n, final, refl)), refl, refl), refl)
  to_path {n = p} (read {q = q} {x = x} {w = w} held rest) =
      let r = to_path rest in
      let edge : Edge Sym = record { from = p; letter = Some x; to = q } in
      (raised edge ∷ r.0, ((are (raised edge)).1 (inl (edge, held, refl)), refl, r.1), ap (λ v. x ∷ v) r.2)
  to_path {n = p} (skip {q = q} {w = w} held rest) =
      let r = to_path rest in
      let edge : Edge Sym = record { from = p; letter = None; to = q } in
      (raised edge ∷ r.0, ((are (raised edge)).1 (inl (edge, held, refl)), refl, r.1), r.2)

  pub graph_words : (w : List Sym) → Writes edges w ↔ Accepts a w
  graph_words w = (
    λ (path, is, letters). subst (λ v. AcceptsFrom a 0 v) letters (to_word path 0 is),
    λ accepted. to_path accepted,
  )

  pub graph_letters : (s : Sym) → HasLetter edges s → UsesLetter a s
  graph_letters s (e, held, at) = elim ((are e).0 held) [
    | inl (x, has, is) ↦ (x, has, sym (ap (λ (y : Edge Sym). y.letter) is) ∙ at)
    | inr (q, final, is) ↦ let none : e.letter ≡ None = ap (λ (y : Edge Sym). y.letter) is in cc
  ]

  pub graph_within : IsWellFormed a → IsWithin edges (length a.finals + 1)
  graph_within formed e held = elim ((are e).0 held) [
    | inl (x, has, is) ↦
        let inside = formed.within x has in
        let from : e.from ≡ x.from + 1 = ap (λ (y : Edge Sym). y.from) is in
        let to : e.to ≡ x.to + 1 = ap (λ (y : Edge Sym). y.to) is in
        (omega (arith, inside.0), omega (arith, inside.1))
    | inr (q, final, is) ↦
        let inside : q < length a.finals = slice_get_within a.finals q true final in
        let from : e.from ≡ q + 1 = ap (λ (y : Edge Sym). y.from) is in
        let to : e.to ≡ end = ap (λ (y : Edge Sym). y.to) is in
        (omega arith, omega arith)
  ]

-- the raised edges of an automaton, and behind them those to the end
graph_is : (a : Automaton Sym) (front edges : List (Edge Sym)) → front ≡ map raised a.edges → ((e : Edge Sym) → Contains edges e ↔ (Contains front e ⊎ IsClosing a.finals e)) → AreGraphOf a edges
graph_is a front edges front_is all e = (
  λ h. elim ((all e).0 h) [
    | inl has ↦
        let r = Contains-map_cases raised a.edges e (subst (λ es. Contains es e) front_is has) in
        inl (r.0, r.1, sym r.2)
    | inr closes ↦ inr closes
  ],
  λ h. elim h [
    | inl (x, has, is) ↦ (all e).1 (inl (subst (λ y. Contains front y) (sym is) (subst (λ es. Contains es (raised x)) (sym front_is) (Contains-map raised a.edges x has))))
    | inr closes ↦ (all e).1 (inr closes)
  ],
)

pub are_graph : (a : Automaton Sym) (own front edges : List (Edge Sym)) (finals : List Bool) → own ≡ a.edges → finals ≡ a.finals → front ≡ map raised own → ((e : Edge Sym) → Contains edges e ↔ (Contains front e ⊎ IsClosing finals e)) → AreGraphOf a edges
are_graph a own front edges finals own_is finals_are front_is all =
    graph_is a front edges (front_is ∙ ap (map raised) own_is) (subst (λ fs. (e : Edge Sym) → Contains edges e ↔ (Contains front e ⊎ IsClosing fs e)) finals_are all)

-- the edges to the end from the final ones of the first states, so many, were added
abbrev pub Closes : List Bool → ℕ → List (Edge Sym) → List (Edge Sym) → Type 0
Closes finals count old new = (e : Edge Sym) → Contains new e ↔ (Contains old e ⊎ ((q : ℕ) × (q < count) × (slice_get finals q ≡ Some true) × (e ≡ closing q)))

module _ (finals : List Bool) (old new : List (Edge Sym)) where
  pub closes_none : Closes finals 0 old old
  closes_none e = (λ h. inl h, λ h. elim h [ inl was ↦ was | inr (q, below, final, is) ↦ absurd (omega arith) ])

  pub closes_all : (count : ℕ) → length finals ≤ count → Closes finals count old new → (e : Edge Sym) → Contains new e ↔ (Contains old e ⊎ IsClosing finals e)
  closes_all count past closes e = (
    λ h. elim ((closes e).0 h) [ inl was ↦ inl was | inr (q, below, final, is) ↦ inr (q, final, is) ],
    λ h. elim h [
      | inl was ↦ (closes e).1 (inl was)
      | inr (q, final, is) ↦ let inside : q < length finals = slice_get_within finals q true final in (closes e).1 (inr (q, omega arith, final, is))
    ],
  )

  pub closes_skip : (count : ℕ) → ¬ (slice_get finals count ≡ Some true) → Closes finals count old new → Closes finals (count + 1) old new
  closes_skip count other closes e = (
    λ h. elim ((closes e).0 h) [ inl was ↦ inl was | inr (q, below, final, is) ↦ inr (q, omega arith, final, is) ],
    λ h. elim h [
      | inl was ↦ (closes e).1 (inl was)
      | inr (q, below, final, is) ↦ elim (cases_eq q count) [
        | inl same ↦ absurd (other (subst (λ k. slice_get finals k ≡ Some true) same final))
        | inr differ ↦ (closes e).1 (inr (q, omega arith, final, is))
      ]
    ],
  )

  pub closes_more : (count : ℕ) → slice_get finals count ≡ Some true → Closes finals count old new → Closes finals (count + 1) old (new ++ closing count ∷ [])
  closes_more count here closes e = (
    λ h. elim (Contains-push_cases new (closing count) e h) [
      | inl was ↦ elim ((closes e).0 was) [ inl earlier ↦ inl earlier | inr (q, below, final, is) ↦ inr (q, omega arith, final, is) ]
      | inr same ↦ inr (count, omega arith, here, sym same)
    ],
    λ h. elim h [
      | inl was ↦ Contains-append_left new (closing count ∷ []) e ((closes e).1 (inl was))
      | inr (q, below, final, is) ↦ elim (cases_eq q count) [
        | inl same ↦ subst (λ y. Contains (new ++ closing count ∷ []) y) (sym (is ∙ ap closing same)) (Contains-push new (closing count))
        | inr differ ↦ Contains-append_left new (closing count ∷ []) e ((closes e).1 (inr (q, omega arith, final, is)))
      ]
    ],
  )
