-- Without a loop with letters no word is longer than there are nodes: along a path from the start to the end the
-- edges with letters leave nodes that differ pairwise.
use Rattle.std.proofs.Common.{◌≡◌, ℕ, suc, ◌<◌, ◌≤◌, List, [], ◌∷◌, ◌++◌, true, false, Option, None, Some, length, refl, sym, subst, ap, inl, inr, arith, ◌∙◌, length-append, option_to_list, eqb, ne_eqb, eqb-true}
use Rattle.std.specs.List.{AllByRecursion, Contains, IsDistinct, list_any}
use Rattle.std.proofs.lemmas.Bool.{cases_Bool, false≢true}
use Rattle.std.proofs.lemmas.Map.Keys.{IsDistinct-cons}
use Rattle.std.proofs.lemmas.Map.Steps.{length-le_from_distinct_below}
use Rattle.fsa.specs.declared.automaton.Edge.{Edge}
use Rattle.lookup.specs.Graph.{IsPath, IsWithin, Connects, Writes, letters_of, start, end}
use Rattle.lookup.specs.Turns.{HasNoTurn}
use Rattle.lookup.proofs.GraphPaths.{connects-append, connects_edge}

-- a node more, where there is a letter
abbrev with_source : {L : Type 0} → Option L → ℕ → List ℕ → List ℕ
with_source None q rest = rest
with_source (Some x) q rest = q ∷ rest

-- the nodes that the edges with letters leave
abbrev sources : {L : Type 0} → List (Edge L) → List ℕ
sources [] = []
sources (e ∷ p) = with_source e.letter e.from (sources p)

module _ {L : Type 0} where
  as_many : (p : List (Edge L)) → length (sources p) ≡ length (letters_of p)
  as_many [] = refl
  as_many (e ∷ p) =
      elim e.letter as (λ o. length (with_source o e.from (sources p)) ≡ length (option_to_list o ++ letters_of p)) [
        | None ↦ as_many p
        | Some x ↦ ap suc (as_many p)
      ]

module _ {L : Type 0} (edges : List (Edge L)) (free : HasNoTurn edges) where
  -- an edge more at the end of a path
  one_more : (a b : ℕ) (w : List L) (e : Edge L) (o : Option L) → Contains edges e → e.from ≡ b → e.letter ≡ o → Connects edges a w b → Connects edges a (w ++ option_to_list o) e.to
  one_more a b w e o held from is h =
      connects-append edges a e.from e.to w (option_to_list o) (subst (λ x. Connects edges a w x) (sym from) h)
      (subst (λ v. Connects edges e.from v e.to) (ap option_to_list is) (connects_edge edges e held))

  longer : (round : List L) (o : Option L) → 0 < length round → 0 < length (round ++ option_to_list o)
  longer round o some = let e = length-append round (option_to_list o) in omega arith

  -- no edge with a letter behind a letter leaves the node again
  apart : (node b : ℕ) (before round : List L) (q : List (Edge L)) → Connects edges start before node → Connects edges node round b → 0 < length round → IsPath edges b q end
      → AllByRecursion (λ y. eqb node y ≡ false) (sources q)
  apart node b before round [] comes goes some h = tt
  apart node b before round (f ∷ q) comes goes some (held, from, rest) =
      let differs : node ≡ f.from → ⊥ = λ same. free before round (letters_of (f ∷ q)) (record {
        node = node;
        comes = comes;
        goes_round = subst (λ x. Connects edges node round x) (sym from ∙ sym same) goes;
        leaves = (f ∷ q, (held, sym same, rest), refl);
        some = some;
      }) in
      elim f.letter as (λ o. f.letter ≡ o → AllByRecursion (λ y. eqb node y ≡ false) (with_source o f.from (sources q))) [
        | None ↦ λ is. apart node f.to before (round ++ []) q comes (one_more node b round f None held from is goes) (longer round None some) rest
        | Some x ↦ λ is. (
          ne_eqb node f.from differs,
          apart node f.to before (round ++ x ∷ []) q comes (one_more node b round f (Some x) held from is goes) (longer round (Some x) some) rest,
        )
      ] refl

  distinct : (a : ℕ) (before : List L) (p : List (Edge L)) → Connects edges start before a → IsPath edges a p end → IsDistinct eqb (sources p)
  unfolding IsDistinct
  distinct a before [] comes h = tt
  distinct a before (e ∷ p) comes (held, from, rest) =
      elim e.letter as (λ o. e.letter ≡ o → IsDistinct eqb (with_source o e.from (sources p))) [
        | None ↦ λ is. distinct e.to (before ++ []) p (one_more start a before e None held from is comes) rest
        | Some x ↦ λ is.
            let here : Connects edges start before e.from = subst (λ x. Connects edges start before x) (sym from) comes in
            IsDistinct-cons eqb e.from (sources p)
            (apart e.from e.to before (x ∷ []) p here (one_more e.from e.from [] e (Some x) held refl is ([], refl, refl)) (omega arith) rest)
            (distinct e.to (before ++ x ∷ []) p (one_more start a before e (Some x) held from is comes) rest)
      ] refl

  module _ (count : ℕ) (within : IsWithin edges count) where
    below : (a : ℕ) (p : List (Edge L)) → IsPath edges a p end → (q : ℕ) → list_any (eqb q) (sources p) ≡ true → q < count
    below a [] h q is = absurd (false≢true is)
    below a (e ∷ p) (held, from, rest) q is =
        elim e.letter as (λ o. list_any (eqb q) (with_source o e.from (sources p)) ≡ true → q < count) [
          | None ↦ λ is. below e.to p rest q is
          | Some x ↦ λ is. elim (cases_Bool (eqb q e.from)) [
            | inl same ↦ subst (λ n. n < count) (sym (eqb-true q e.from same)) (within e held).0
            | inr other ↦ below e.to p rest q (rw other at is)
          ]
        ] is

    -- a word is no longer than there are nodes
    pub short : (word : List L) → Writes edges word → length word ≤ count
    short word (p, h, is) =
        let d = distinct start [] p ([], refl, refl) h in
        let few = length-le_from_distinct_below (sources p) count d (below start p h) in
        let e = as_many p in
        let f : length (letters_of p) ≡ length word = ap (λ w. length w) is in omega arith
