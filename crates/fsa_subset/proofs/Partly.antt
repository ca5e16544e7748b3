-- The automaton of the sets that were found accepts what the automaton accepts.
use Rattle.std.proofs.Common.{◌≡◌, ℕ, zero, suc, ◌+◌, ◌<◌, ◌↔◌, List, [], ◌∷◌, ◌++◌, Bool, true, Option, Some, None, length, map, take, refl, subst, sym, ap, inl, inr, arith, ◌∙◌, length-append}
use Rattle.std.specs.List.{Contains, All, slice_get}
use Rattle.std.specs.Option.{option_and_then}
use Rattle.std.proofs.lemmas.Option.{slice_get_within, same_Some}
use Rattle.word_relations.proofs.Members.{Contains-map, Contains-map_cases}
use Rattle.word_relations.proofs.Places.{same_at, slice_get_from_Contains, Contains-from_slice_get, slice_get-append_cases, slice_get-append_left, slice_get-push, take_more-slice_get}
use Rattle.fsa.specs.Automaton.{Automaton, UsesLetter}
use Rattle.fsa.specs.Language.{AcceptsFrom, Accepts, stop, read, skip}
use Rattle.fsa.specs.declared.automaton.Edge.{Edge}
use Rattle.fsa_explore.specs.Reaches.{here}
use Rattle.fsa_subset.specs.Placed.{Goes, IsPlaced, with_letter}
use Rattle.fsa_subset.specs.Partial.{Partial, IsSpreadBy, AreFinal}
use Rattle.fsa_subset.specs.Sets.{HasMove, LeadsBy}
use Rattle.fsa_subset.specs.declared.places.LetterIndex.{LetterIndex}
use Rattle.fsa_subset.proofs.Language.{WordsOf, epsilon_first}

-- the sets have states that are there
pub sets_within : (edges : List (Edge LetterIndex)) (states done : ℕ) (found : Partial) → IsSpreadBy edges states done found → (set : List ℕ) → Contains found.sets set → All (λ p. p < states) set
sets_within edges states done found (start, is, spread) set h = (spread.states set h).within

-- the edges go between sets that are there
pub edges_within : (edges : List (Edge LetterIndex)) (states done : ℕ) (found : Partial) → IsSpreadBy edges states done found → (e : Edge LetterIndex) → Contains found.edges e → (e.from < length found.sets) × (e.to < length found.sets)
edges_within edges states done found (start, is, spread) e h =
    let r = spread.only e h in
    (subst (λ k. k < length found.sets) (sym r.5.0) (slice_get_within found.sets r.0 r.1 r.3), slice_get_within found.sets e.to r.5.2.0 r.5.2.1)

pub some_set : (edges : List (Edge LetterIndex)) (states done : ℕ) (found : Partial) → IsSpreadBy edges states done found → 0 < length found.sets
some_set edges states done found (start, is, spread) = slice_get_within found.sets 0 start spread.start_first

module _ {L : Type 0} (m : Automaton L) (letters : List L) (edges : List (Edge LetterIndex)) (placed : IsPlaced letters m.edges edges) (all : (e : Edge L) (x : L) → Contains m.edges e → e.letter ≡ Some x → Contains letters x)
    (found : Partial) (built : IsSpreadBy edges (length m.finals) (length found.sets) found) (marks : List Bool) (final : AreFinal m.finals found.sets marks) where
  abbrev built_one : Automaton L
  built_one = record { edges = map (with_letter letters) found.edges; finals = marks }

  -- the letter of an edge, and the set that it leaves
  edge_of : (p : ℕ) (o : Option L) (q : ℕ) → Goes built_one.edges p o q → (x : L) × (o ≡ Some x) × (set : List ℕ) × (place : ℕ) × (to : List ℕ)
      × (slice_get found.sets p ≡ Some set) × (slice_get letters place ≡ Some x) × HasMove edges set place × (slice_get found.sets q ≡ Some to) × LeadsBy edges set place to
  edge_of p o q h =
      let e = Contains-map_cases (with_letter letters) found.edges (record { from = p; letter = o; to = q }) h in
      let r = built.2.only e.0 e.1 in
      let step = r.5 in
      let move = r.4 in
      let goes = placed.only move.1.0 r.2 move.0 move.1.2 in
      let leaves : r.0 ≡ p = sym step.0 ∙ ap (λ (y : Edge L). y.from) e.2 in
      let enters : e.0.to ≡ q = ap (λ (y : Edge L). y.to) e.2 in
      let letter : o ≡ Some goes.0 = sym (ap (λ (y : Edge L). y.letter) e.2) ∙ ap (λ l. option_and_then (λ (place : LetterIndex). slice_get letters place.0) l) step.1 ∙ goes.1 in
      (goes.0, letter, r.1, r.2, step.2.0, subst (λ k. slice_get found.sets k ≡ Some r.1) leaves r.3, goes.1, move, subst (λ k. slice_get found.sets k ≡ Some step.2.0) enters step.2.1, step.2.2)

  back : {k : ℕ} {w : List L} → AcceptsFrom built_one k w → (set : List ℕ) → slice_get found.sets k ≡ Some set → WordsOf m set w
  back {k} (stop h) set at = let f = (final.final k set at).0 h in (f.0, f.1, stop f.2)
  back {k} (read {q = q} {x = x} {w = w} held rest) set at =
      let (y, letter, source, place, to, at_source, at_place, move, at_to, leads) = edge_of k (Some x) q held in
      let same : source ≡ set = same_at found.sets k source set at_source at in
      let y_is : x ≡ y = cc in
      let behind = back rest to at_to in
      let r = (leads behind.0).0 behind.1 in
      let goes = placed.only r.1.0 place r.0 r.1.2 in
      let z_is : goes.0 ≡ x = same_at letters place goes.0 y goes.1 at_place ∙ sym y_is in
      let edge : Goes m.edges r.1.0 (Some x) r.0 = subst (λ z. Goes m.edges r.1.0 (Some z) r.0) z_is goes.2 in
      (r.1.0, subst (λ s. Contains s r.1.0) same r.1.1, read edge (epsilon_first m letters edges placed uses w r.2 behind.2))
    where
      uses : (x : L) → UsesLetter m x → Contains letters x
      uses x (e, h, is) = all e x h is
  back {k} (skip {q = q} held rest) set at =
      let e = edge_of k None q held in
      let none : None ≡ Some e.0 = e.1 in
      absurd (cc)

  forth : {p : ℕ} {w : List L} → AcceptsFrom m p w → (k : ℕ) (set : List ℕ) → slice_get found.sets k ≡ Some set → Contains set p → AcceptsFrom built_one k w
  forth {p} (stop h) k set at held = stop ((final.final k set at).1 (p, held, h))
  forth {p} (read {q = q} {x = x} {w = w} edge rest) k set at held =
      let place = slice_get_from_Contains letters x (all (record { from = p; letter = Some x; to = q }) x edge refl) in
      let goes = placed.all p place.0 q x place.1 edge in
      let (e, held_e, (from, letter, (to, at_to, leads))) = built.2.all k place.0 set (slice_get_within found.sets k set at) at (q, (p, held, goes)) in
      let inside : Contains to q = (leads q).1 (q, (p, held, goes), here) in
      let mapped : Contains built_one.edges (with_letter letters e) = Contains-map (with_letter letters) found.edges e held_e in
      let carries : option_and_then (λ (place : LetterIndex). slice_get letters place.0) e.letter ≡ Some x = ap (λ l. option_and_then (λ (place : LetterIndex). slice_get letters place.0) l) letter ∙ place.1 in
      let there : Goes built_one.edges k (Some x) e.to = subst (λ a. Goes built_one.edges a (Some x) e.to) from (subst (λ o. Goes built_one.edges e.from o e.to) carries mapped) in
      read there (forth rest e.to to at_to inside)
  forth {p} (skip {q = q} edge rest) k set at held =
      forth rest k set at ((built.2.states set (Contains-from_slice_get found.sets k set at)).closed p q held ((placed.epsilon p q).1 edge))

  pub spread_language : (w : List L) → Accepts built_one w ↔ Accepts m w
  spread_language w = (
    λ h.
        let r = back h built.0 built.2.start_first in
        epsilon_first m letters edges placed (λ x (e, held, is). all e x held is) w ((built.1 r.0).0 r.1) r.2,
    λ h. forth h 0 built.0 built.2.start_first ((built.1 0).1 here),
  )

  pub spread_letters : (x : L) → UsesLetter built_one x → UsesLetter m x
  spread_letters x (e, held, is) =
      let (y, letter, set, place, to, at_set, at_place, move, at_to, leads) = edge_of e.from e.letter e.to held in
      let goes = placed.only move.1.0 place move.0 move.1.2 in
      let z_is : goes.0 ≡ y = same_at letters place goes.0 y goes.1 at_place in
      let y_is : y ≡ x = cc in
      (record { from = move.1.0; letter = Some goes.0; to = move.0 }, goes.2, ap Some (z_is ∙ y_is))

pub final_none : (finals : List Bool) → AreFinal finals [] []
final_none finals = record { count = refl; final = λ number set at. cc }

-- one set more
pub final_more : (finals : List Bool) (sets : List (List ℕ)) (i : ℕ) (set : List ℕ) (marks : List Bool) (b : Bool) → slice_get sets i ≡ Some set → (b ≡ true) ↔ ((p : ℕ) × Contains set p × (slice_get finals p ≡ Some true))
    → AreFinal finals (take i sets) marks → AreFinal finals (take (i + 1) sets) (marks ++ b ∷ [])
final_more finals sets i set marks b at is before = subst (λ ss. AreFinal finals ss (marks ++ b ∷ [])) (sym front) record {
  count = length-append marks (b ∷ []) ∙ ap (λ n. n + 1) before.count ∙ sym (length-append (take i sets) (set ∷ []));
  final = λ k s there. elim (slice_get-append_cases (take i sets) (set ∷ []) k s there) [
    | inl was ↦
        let less : k < length marks = let w = slice_get_within (take i sets) k s was in let c = before.count in omega arith in
        subst (λ o. (o ≡ Some true) ↔ ((p : ℕ) × Contains s p × (slice_get finals p ≡ Some true))) (sym (slice_get-append_left marks (b ∷ []) k less)) (before.final k s was)
    | inr (j, place, e) ↦ last j place e
  ];
}
  where
    front : take (i + 1) sets ≡ take i sets ++ set ∷ []
    front = take_more-slice_get sets i set at

    last : {k : ℕ} {s : List ℕ} (j : ℕ) → k ≡ j + length (take i sets) → slice_get (set ∷ []) j ≡ Some s → (slice_get (marks ++ b ∷ []) k ≡ Some true) ↔ ((p : ℕ) × Contains s p × (slice_get finals p ≡ Some true))
    last {k} {s} zero place e =
        let same : set ≡ s = same_Some set s e in
        let c = before.count in
        let k_is : length marks ≡ k = omega arith in
        let seam : slice_get (marks ++ b ∷ []) k ≡ Some b = subst (λ n. slice_get (marks ++ b ∷ []) n ≡ Some b) k_is (slice_get-push marks b) in
        subst (λ t. (slice_get (marks ++ b ∷ []) k ≡ Some true) ↔ ((p : ℕ) × Contains t p × (slice_get finals p ≡ Some true))) same
        (λ h. is.0 (same_Some b true (sym seam ∙ h)), λ r. seam ∙ ap Some (is.1 r))
    last (suc j) place e = cc
