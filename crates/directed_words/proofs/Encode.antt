-- Where marks stand in a written derivation.
use Rattle.std.proofs.Common.{◌≡◌, ℕ, List, [], ◌∷◌, ◌++◌, refl, ap, ◌∙◌, append_assoc, append-nil, subst}
use Rattle.std.specs.List.{flat_map}
use Rattle.std.proofs.lemmas.Grind.{flat_map-append}
use Rattle.fsm_base.specs.declared.letters.Sym.{Sym}
use Rattle.fsm_base.specs.declared.letters.Bound.{Bound}
use Rattle.fsm_base.specs.declared.letters.Bound.TheVariants.{Edge, Inner}
use Rattle.replace_words.specs.declared.marks.Mark.{Mark}
use Rattle.replace_words.specs.declared.marks.Mark.TheVariants.{Copy, Up, Low, Same, Open, Close}
use Rattle.replace_words.specs.Claims.{Claim, copied, replaced, marked, IsBy}
use Rattle.replace_words.specs.Marked.{ups, lows, sames, bracket, encode, written}
use Rattle.directed_words.proofs.Splits.{in_first, in_second, split_at, locate, nil_split, single_split}

-- what stands between brackets
abbrev IsInside : Bound Mark → Type 0
IsInside Edge = ⊥
IsInside (Inner (Copy s)) = ⊥
IsInside (Inner (Up s)) = Unit {0}
IsInside (Inner (Low s)) = Unit {0}
IsInside (Inner (Same s)) = Unit {0}
IsInside (Inner (Open k)) = ⊥
IsInside (Inner (Close k)) = ⊥

-- each of them
data AllInside : List (Bound Mark) → Type 0 where
  none : AllInside []
  one : {m : Bound Mark} {ms : List (Bound Mark)} → IsInside m → AllInside ms → AllInside (m ∷ ms)

inside_append : (a b : List (Bound Mark)) → AllInside a → AllInside b → AllInside (a ++ b)
inside_append [] b none q = q
inside_append (m ∷ a) b (one h p) q = one h (inside_append a b p q)

inside_ups : (w : List Sym) → AllInside (ups w)
inside_ups [] = none
inside_ups (s ∷ w) = one tt (inside_ups w)

inside_lows : (w : List Sym) → AllInside (lows w)
inside_lows [] = none
inside_lows (s ∷ w) = one tt (inside_lows w)

inside_sames : (w : List Sym) → AllInside (sames w)
inside_sames [] = none
inside_sames (s ∷ w) = one tt (inside_sames w)

inside_at : (a x : List (Bound Mark)) (z : Bound Mark) (y : List (Bound Mark)) → AllInside a → a ≡ x ++ z ∷ y → IsInside z
inside_at [] x z y h e = absurd (nil_split x z y e)
inside_at (m ∷ a) [] z y (one h t) e = let is : m ≡ z = cc in subst IsInside is h
inside_at (m ∷ a) (g ∷ x) z y (one h t) e = let rest : a ≡ x ++ z ∷ y = cc in inside_at a x z y t rest

-- the opening bracket is the first mark, and the only one
bracket_open : (k j : ℕ) (body x y : List (Bound Mark)) → AllInside body → bracket k body ≡ x ++ Inner (Open j) ∷ y → (j ≡ k) × (x ≡ [])
bracket_open k j body [] y h e = (cc, refl)
bracket_open k j body (g ∷ x) y h e =
    let rest : body ++ Inner (Close k) ∷ [] ≡ x ++ Inner (Open j) ∷ y = cc in
    elim (split_at body (Inner (Close k) ∷ []) x (Inner (Open j)) y rest) [
      | in_first y' is r ↦ absurd (inside_at body x (Inner (Open j)) y' h is)
      | in_second x' f is ↦ let is' = (single_split (Inner (Close k)) x' (Inner (Open j)) y is).0 in let bad : ⊥ = cc in absurd bad
    ]

-- the closing bracket is the last mark, and the only one
bracket_close : (k j : ℕ) (body x y : List (Bound Mark)) → AllInside body → bracket k body ≡ x ++ Inner (Close j) ∷ y → (j ≡ k) × (y ≡ [])
bracket_close k j body [] y h e = let bad : ⊥ = cc in absurd bad
bracket_close k j body (g ∷ x) y h e =
    let rest : body ++ Inner (Close k) ∷ [] ≡ x ++ Inner (Close j) ∷ y = cc in
    elim (split_at body (Inner (Close k) ∷ []) x (Inner (Close j)) y rest) [
      | in_first y' is r ↦ absurd (inside_at body x (Inner (Close j)) y' h is)
      | in_second x' f is ↦ let s = single_split (Inner (Close k)) x' (Inner (Close j)) y is in let is' : Inner (Close k) ≡ Inner (Close j) = s.0 in (cc, s.2)
    ]

-- nothing is copied between brackets
bracket_copy : (k : ℕ) (s : Sym) (body x y : List (Bound Mark)) → AllInside body → bracket k body ≡ x ++ Inner (Copy s) ∷ y → ⊥
bracket_copy k s body [] y h e = cc
bracket_copy k s body (g ∷ x) y h e =
    let rest : body ++ Inner (Close k) ∷ [] ≡ x ++ Inner (Copy s) ∷ y = cc in
    elim (split_at body (Inner (Close k) ∷ []) x (Inner (Copy s)) y rest) [
      | in_first y' is r ↦ inside_at body x (Inner (Copy s)) y' h is
      | in_second x' f is ↦ let is' = (single_split (Inner (Close k)) x' (Inner (Copy s)) y is).0 in cc
    ]

pub edge_not_inner : (m : Mark) (x y : List (Bound Mark)) → Edge ∷ [] ≡ x ++ Inner m ∷ y → ⊥
edge_not_inner m x y e = let is : Edge ≡ Inner m = (single_split Edge x (Inner m) y e).0 in cc

pub open_here : (p : Claim) (k : ℕ) (x y : List (Bound Mark)) → encode p ≡ x ++ Inner (Open k) ∷ y → IsBy k p × (x ≡ [])
open_here (copied s) k x y e = let is : Inner (Copy s) ≡ Inner (Open k) = (single_split (Inner (Copy s)) x (Inner (Open k)) y e).0 in let bad : ⊥ = cc in absurd bad
open_here (replaced j c b) k x y e = bracket_open j k (ups c ++ lows b) x y (inside_append (ups c) (lows b) (inside_ups c) (inside_lows b)) e
open_here (marked j b c a) k x y e = bracket_open j k (lows b ++ sames c ++ lows a) x y (inside_append (lows b ++ sames c) (lows a) (inside_append (lows b) (sames c) (inside_lows b) (inside_sames c)) (inside_lows a)) e

pub close_here : (p : Claim) (k : ℕ) (x y : List (Bound Mark)) → encode p ≡ x ++ Inner (Close k) ∷ y → IsBy k p × (y ≡ [])
close_here (copied s) k x y e = let is : Inner (Copy s) ≡ Inner (Close k) = (single_split (Inner (Copy s)) x (Inner (Close k)) y e).0 in let bad : ⊥ = cc in absurd bad
close_here (replaced j c b) k x y e = bracket_close j k (ups c ++ lows b) x y (inside_append (ups c) (lows b) (inside_ups c) (inside_lows b)) e
close_here (marked j b c a) k x y e = bracket_close j k (lows b ++ sames c ++ lows a) x y (inside_append (lows b ++ sames c) (lows a) (inside_append (lows b) (sames c) (inside_lows b) (inside_sames c)) (inside_lows a)) e

pub copy_here : (p : Claim) (s : Sym) (x y : List (Bound Mark)) → encode p ≡ x ++ Inner (Copy s) ∷ y → (p ≡ copied s) × (x ≡ []) × (y ≡ [])
copy_here (copied t) s x y e =
    let r = single_split (Inner (Copy t)) x (Inner (Copy s)) y e in
    let is : Inner (Copy t) ≡ Inner (Copy s) = r.0 in
    (cc, r.1, r.2)
copy_here (replaced j c b) s x y e = absurd (bracket_copy j s (ups c ++ lows b) x y (inside_append (ups c) (lows b) (inside_ups c) (inside_lows b)) e)
copy_here (marked j b c a) s x y e = absurd (bracket_copy j s (lows b ++ sames c ++ lows a) x y (inside_append (lows b ++ sames c) (lows a) (inside_append (lows b) (sames c) (inside_lows b) (inside_sames c)) (inside_lows a)) e)

pub front_at : (g : Bound Mark) (x p l : List (Bound Mark)) → g ≡ Edge → x ≡ p ++ l → l ≡ [] → g ∷ x ≡ Edge ∷ p
front_at g x p l head left gone = rw (head, left, gone, append-nil)

-- an opening bracket stands at the beginning of a replacement
pub record OpenPlace (ps : List Claim) (k : ℕ) (x : List (Bound Mark)) : Type 0 where
  pub before : List Claim
  pub piece : Claim
  pub behind : List Claim
  pub whole : ps ≡ before ++ piece ∷ behind
  pub by : IsBy k piece
  pub at : x ≡ Edge ∷ flat_map encode before

pub open_place : (ps : List Claim) (k : ℕ) (x y : List (Bound Mark)) → written ps ≡ x ++ Inner (Open k) ∷ y → OpenPlace ps k x
open_place ps k [] y e = let bad : ⊥ = cc in absurd bad
open_place ps k (g ∷ x) y e =
    let head : g ≡ Edge = cc in
    let rest : flat_map encode ps ++ Edge ∷ [] ≡ x ++ Inner (Open k) ∷ y = cc in
    let r = locate encode ps (Edge ∷ []) x (Inner (Open k)) y (edge_not_inner (Open k)) rest in
    let here = open_here r.piece k r.left r.right r.inside in
    let left : x ≡ flat_map encode r.before ++ r.left = r.at_left in
    let none : r.left ≡ [] = here.1 in
    record { before = r.before; piece = r.piece; behind = r.behind; whole = r.whole; by = here.0; at = front_at g x (flat_map encode r.before) r.left head left none }

-- a closing bracket stands at the end of a replacement
pub record ClosePlace (ps : List Claim) (k : ℕ) (y : List (Bound Mark)) : Type 0 where
  pub before : List Claim
  pub piece : Claim
  pub behind : List Claim
  pub whole : ps ≡ before ++ piece ∷ behind
  pub by : IsBy k piece
  pub at : y ≡ flat_map encode behind ++ Edge ∷ []

pub close_place : (ps : List Claim) (k : ℕ) (x y : List (Bound Mark)) → written ps ≡ x ++ Inner (Close k) ∷ y → ClosePlace ps k y
close_place ps k [] y e = let bad : ⊥ = cc in absurd bad
close_place ps k (g ∷ x) y e =
    let rest : flat_map encode ps ++ Edge ∷ [] ≡ x ++ Inner (Close k) ∷ y = cc in
    let r = locate encode ps (Edge ∷ []) x (Inner (Close k)) y (edge_not_inner (Close k)) rest in
    let here = close_here r.piece k r.left r.right r.inside in
    let none : r.right ≡ [] = here.1 in
    record { before = r.before; piece = r.piece; behind = r.behind; whole = r.whole; by = here.0; at = r.at_right ∙ ap (λ v. v ++ (flat_map encode r.behind ++ Edge ∷ [])) none }

-- a replacement opens
pub opens : (p : Claim) (k : ℕ) → IsBy k p → (y : List (Bound Mark)) × (encode p ≡ Inner (Open k) ∷ y)
opens (copied s) k h = absurd h
opens (replaced j c b) k h = ((ups c ++ lows b) ++ Inner (Close j) ∷ [], let is : k ≡ j = h in cc)
opens (marked j b c a) k h = ((lows b ++ sames c ++ lows a) ++ Inner (Close j) ∷ [], let is : k ≡ j = h in cc)

-- a replacement closes
pub closes : (p : Claim) (k : ℕ) → IsBy k p → (x : List (Bound Mark)) × (encode p ≡ x ++ Inner (Close k) ∷ [])
closes (copied s) k h = absurd h
closes (replaced j c b) k h = (Inner (Open j) ∷ (ups c ++ lows b), let is : k ≡ j = h in rw is)
closes (marked j b c a) k h = (Inner (Open j) ∷ (lows b ++ sames c ++ lows a), let is : k ≡ j = h in rw is)

-- the opening bracket of a replacement in the written derivation
pub written_opens : (ps before behind : List Claim) (p : Claim) (k : ℕ) → ps ≡ before ++ p ∷ behind → IsBy k p → (y : List (Bound Mark)) × (written ps ≡ (Edge ∷ flat_map encode before) ++ Inner (Open k) ∷ y)
written_opens ps before behind p k whole by =
    let o = opens p k by in
    (o.0 ++ flat_map encode behind ++ Edge ∷ [], opened ps before behind p k o.0 whole o.1)
  where
    opened : (ps before behind : List Claim) (p : Claim) (k : ℕ) (y : List (Bound Mark)) → ps ≡ before ++ p ∷ behind → encode p ≡ Inner (Open k) ∷ y → written ps ≡ (Edge ∷ flat_map encode before) ++ Inner (Open k) ∷ (y ++ flat_map encode behind ++ Edge ∷ [])
    opened ps before behind p k y whole e = rw whole (simp (flat_map-append, append_assoc) (rw e refl))

-- the closing bracket of a replacement in the written derivation
pub written_closes : (ps before behind : List Claim) (p : Claim) (k : ℕ) → ps ≡ before ++ p ∷ behind → IsBy k p → (x : List (Bound Mark)) × (written ps ≡ x ++ Inner (Close k) ∷ (flat_map encode behind ++ Edge ∷ []))
written_closes ps before behind p k whole by =
    let o = closes p k by in
    (Edge ∷ (flat_map encode before ++ o.0), closed ps before behind p k o.0 whole o.1)
  where
    closed : (ps before behind : List Claim) (p : Claim) (k : ℕ) (x : List (Bound Mark)) → ps ≡ before ++ p ∷ behind → encode p ≡ x ++ Inner (Close k) ∷ [] → written ps ≡ (Edge ∷ (flat_map encode before ++ x)) ++ Inner (Close k) ∷ (flat_map encode behind ++ Edge ∷ [])
    closed ps before behind p k x whole e = rw whole (simp (flat_map-append, append_assoc) (rw e (simp append_assoc)))
