-- States that are apart: by a word that is accepted from exactly one of them.
use Rattle.std.proofs.Common.{◌≡◌, ◌≢◌, ℕ, ◌+◌, ◌*◌, ◌<◌, ◌≤◌, ◌⊎◌, ◌↔◌, List, [], ◌∷◌, All, Option, Some, Bool, true, length, get_or, take, sym, subst, ap, inl, inr, arith, ◌∙◌}
use Rattle.std.specs.List.{slice_get, Contains}
use Rattle.std.proofs.lemmas.List.{take_all}
use Rattle.std.proofs.lemmas.List.Elements.{Contains-get_or}
use Rattle.std.proofs.lemmas.Option.{slice_get_within, slice_get-get_or}
use Rattle.word_relations.proofs.Places.{same_at}
use Rattle.fsa.specs.Complete.{Complete, IsComplete, stop, next_state}
use Rattle.fsa.proofs.Paths.{stop_back}
use Rattle.fsa_explore.specs.Marks.{Marks, Adds}
use Rattle.fsa_explore.proofs.Added.{Grows-keeps}
use Rattle.fsa_minimal.proofs.Kept.{same_or_not, take_cases, take_old, take_new}
use Rattle.fsa_minimal.proofs.Fewest.{apart_by, apart_back, at_place, next_there, fewest}
use Rattle.fsa_minimal.proofs.Images.{images_down, images_up}
use Rattle.fsa_minimal.specs.Images.{AreImages}
use Rattle.fsa_minimal.specs.Folding.{AreByClass}
use Rattle.fsa_minimal.specs.Splitting.{SplitsBy}
use Rattle.fsa_minimal.specs.Fewest.{HasFewest, AreApart, Leads, here, along, AreReachedBelow, ClassesAreApart, IsApartFromOthers}

-- the final states below a bound
abbrev pub AreFinalsBelow : List Bool → ℕ → List ℕ → Type 0
AreFinalsBelow finals bound found = (s : ℕ) → Contains found s ↔ ((s < bound) × (slice_get finals s ≡ Some true))

pub finals_more : (finals : List Bool) (bound : ℕ) (now new : Marks) → slice_get finals bound ≡ Some true → AreFinalsBelow finals bound now.found → Adds now new (λ k. k ≡ bound) → AreFinalsBelow finals (bound + 1) new.found
finals_more finals bound now new final are adds s = (
  λ h. elim (adds.grows.only s h) [
    | inl old ↦ let r = (are s).0 old in (omega arith, r.1)
    | inr e ↦ (omega arith, ap (slice_get finals) e ∙ final)
  ],
  λ h. elim (same_or_not s bound) [
    | inl e ↦ adds.all s e
    | inr ne ↦ Grows-keeps now new (λ k. k ≡ bound) adds.grows s ((are s).1 (omega arith, h.1))
  ],
)

pub finals_past : (finals : List Bool) (bound : ℕ) (found : List ℕ) → (slice_get finals bound ≡ Some true → ⊥) → AreFinalsBelow finals bound found → AreFinalsBelow finals (bound + 1) found
finals_past finals bound found never are s = (
  λ h. let r = (are s).0 h in (omega arith, r.1),
  λ h. elim (same_or_not s bound) [
    | inl e ↦ absurd (never (ap (slice_get finals) (sym e) ∙ h.1))
    | inr ne ↦ (are s).1 (omega arith, h.1)
  ],
)

-- the empty word tells the final states from the others
pub finals_apart : {L : Type 0} (d : Complete L) (bound : ℕ) (found : List ℕ) → length d.finals ≤ bound → AreFinalsBelow d.finals bound found → IsApartFromOthers d found
finals_apart d bound found past are s t there_s there_t in_s out_t =
    ([], inl (stop ((are s).0 in_s).1, λ h. out_t ((are t).1 (omega arith, stop_back d t h))))

-- classes that are split by states that are apart from the others
pub split_apart : {L : Type 0} (d : Complete L) (found old new : List ℕ) → ClassesAreApart d old → IsApartFromOthers d found → SplitsBy found old new → ClassesAreApart d new
split_apart d found old new before others split s t there_s there_t ne = elim (split s t ne) [
  | inl differ ↦ before s t there_s there_t differ
  | inr one ↦ elim one [
    | inl p ↦ others s t there_s there_t p.0 p.1
    | inr p ↦ apart_back d t s (others t s there_t there_s p.1 p.0)
  ]
]

-- all states in one class
pub one_apart : {L : Type 0} (d : Complete L) (class_of : List ℕ) → length class_of ≡ length d.finals → All (λ class. class ≡ 0) class_of → ClassesAreApart d class_of
one_apart d class_of count zeros s t there_s there_t ne =
    let at : (k : ℕ) → k < length class_of → slice_get class_of k ≡ Some 0 = λ k l. slice_get-get_or class_of k 0 l ∙ ap Some (zeros k 0 l) in
    absurd (ne (at s (omega arith) ∙ sym (at t (omega arith))))

-- the states of a class
pub class_apart : {L : Type 0} (d : Complete L) (class_of : List ℕ) (class : ℕ) (members : List ℕ) → ClassesAreApart d class_of → ((s : ℕ) → Contains members s ↔ (slice_get class_of s ≡ Some class)) → IsApartFromOthers d members
class_apart d class_of class members apart are s t there_s there_t in_s out_t =
    apart s t there_s there_t (λ e. out_t ((are t).1 (sym e ∙ (are s).0 in_s)))

pub class_there : (class_of : List ℕ) (class : ℕ) (members : List ℕ) (n : ℕ) → length class_of ≡ n → ((s : ℕ) → Contains members s ↔ (slice_get class_of s ≡ Some class)) → All (λ s. s < n) members
class_there class_of class members n count are k d l =
    let m = Contains-get_or members k d l in
    let w = slice_get_within class_of (get_or members k d) class ((are (get_or members k d)).0 m) in omega arith

-- the states that a letter leads to one of these
abbrev pub AreSources : {L : Type 0} → Complete L → ℕ → List ℕ → List ℕ → Type 0
AreSources d place states found = (s : ℕ) → Contains found s ↔ ((t : ℕ) × Contains states t × (next_state d s place ≡ Some t))

pub sources_none : {L : Type 0} (d : Complete L) (place : ℕ) (states found : List ℕ) → found ≡ [] → AreSources d place (take 0 states) found
sources_none d place [] found none s = (λ h. let l = h.1 in let e = ap length none in absurd (omega arith), λ h. let l = h.1.1 in absurd (omega arith))
sources_none d place (x ∷ states) found none s = (λ h. let l = h.1 in let e = ap length none in absurd (omega arith), λ h. let l = h.1.1 in absurd (omega arith))

pub sources_more : {L : Type 0} (d : Complete L) (place : ℕ) (states old new : List ℕ) (i x : ℕ) → slice_get states i ≡ Some x → AreSources d place (take i states) old
    → ((s : ℕ) → Contains new s ↔ (Contains old s ⊎ (next_state d s place ≡ Some x))) → AreSources d place (take (i + 1) states) new
sources_more d place states old new i x at are adds s = (
  λ h. elim ((adds s).0 h) [
    | inl before ↦ let r = (are s).0 before in (r.0, take_old states i x at r.0 r.1, r.2)
    | inr goes ↦ (x, take_new states i x at, goes)
  ],
  λ h. (adds s).1 (elim (take_cases states i x at h.0 h.1) [
    | inl before ↦ inl ((are s).1 (h.0, before, h.2))
    | inr e ↦ inr (h.2 ∙ ap Some (sym e))
  ]),
)

-- states that a letter leads to states that are apart from the others are apart from the others
pub sources_apart : {L : Type 0} (d : Complete L) → IsComplete d → (place : ℕ) → place < length d.letters → (states found : List ℕ) (i : ℕ) → length states ≤ i → AreSources d place (take i states) found → IsApartFromOthers d states → IsApartFromOthers d found
sources_apart d ok place inside states found i past are apart s t there_s there_t in_s out_t =
    let all : AreSources d place states found = subst (λ xs. AreSources d place xs found) (take_all i states past) are in
    let u = (all s).0 in_s in
    let v = next_there d ok t place there_t inside in
    let w = next_there d ok s place there_s inside in
    let same : w.0 ≡ u.0 = same_at d.next (s * length d.letters + place) w.0 u.0 w.1 u.2 in
    let x = at_place d.letters place inside in
    apart_by d ok s t place x.0 u.0 v.0 x.1 u.2 v.1
    (apart u.0 v.0 (subst (λ k. k < length d.finals) same w.2) v.2 u.1 (λ h. out_t ((all t).1 (v.0, h, v.1))))

module _ {L : Type 0} (a b : Complete L) (ok : IsComplete a) (b_ok : IsComplete b) (letters : b.letters ≡ a.letters) (images : List (Option ℕ)) (are : AreImages a b images) where
  -- a state that is reached is what some state becomes
  pub becomes : {i j : ℕ} {w : List L} → Leads b i w j → (s : ℕ) → slice_get images s ≡ Some (Some i) → (t : ℕ) × (slice_get images t ≡ Some (Some j))
  becomes here s is = (s, is)
  becomes {i} (along {t = u} {x = x} k at go rest) s is =
      let place : k < length a.letters = subst (λ ls. k < length ls) letters (slice_get_within b.letters k x at) in
      let t = next_there a ok s k (are.there s i is) place in
      let on = (are.goes_on s i is).step k t.0 place t.1 in
      let same : on.0 ≡ u = same_at b.next (i * length b.letters + k) on.0 u on.2 go in
      becomes rest t.0 (subst (λ v. slice_get images t.0 ≡ Some (Some v)) same on.1)

  -- states that become states that are not the same are apart, and then these are
  images_apart : (class_of : List ℕ) → length class_of ≡ length a.finals → ClassesAreApart a class_of → AreByClass class_of images → (s t i j : ℕ) → slice_get images s ≡ Some (Some i) → slice_get images t ≡ Some (Some j) → i ≢ j → AreApart b i j
  images_apart class_of count apart by s t i j is_s is_t ne =
      let there = are.there s i is_s in
      let differ : slice_get class_of s ≢ slice_get class_of t = λ e. let f : Some (Some i) ≡ Some (Some j) = sym is_s ∙ by.same s t (omega arith) e ∙ is_t in ne (cc) in
      let w = apart s t there (are.there t j is_t) differ in (
        w.0,
        elim w.1 [
          | inl h ↦ inl (images_down a b ok letters images are h.0 i is_s, λ r. h.1 (images_up a b ok letters images are r t is_t))
          | inr h ↦ inr (λ r. h.0 (images_up a b ok letters images are r s is_s), images_down a b ok letters images are h.1 j is_t)
        ],
      )

  pub fewest_images : (class_of : List ℕ) → length class_of ≡ length a.finals → ClassesAreApart a class_of → AreByClass class_of images → AreReachedBelow b (length b.finals) → HasFewest b
  fewest_images class_of count apart by reached = fewest b b_ok reached (λ i j there_i there_j ne.
      let s = becomes (reached i there_i).1 0 are.start in
      let t = becomes (reached j there_j).1 0 are.start in
      images_apart class_of count apart by s.0 t.0 i j s.1 t.1 ne)
