-- The language of a chain of states, one for each place of a word.
use Rattle.std.proofs.Common.{◌≡◌, ◌↔◌, ◌<◌, ◌≤◌, ◌+◌, ℕ, Bool, true, false, List, [], ◌∷◌, ◌++◌, length, drop, replicate, Some, None, refl, sym, ap, subst, ◌∙◌, arith, slice_get, zero, suc}
use Rattle.std.proofs.lemmas.List.{drop_all}
use Rattle.std.specs.List.{Contains}
use Rattle.fsa.specs.Automaton.{Automaton}
use Rattle.fsa.specs.Language.{Accepts, AcceptsFrom, stop, read, skip}
use Rattle.fsa.specs.declared.automaton.Edge.{Edge}
use Rattle.network_algebra.specs.Words.{IsStep}

last_at : (n p : ℕ) → slice_get (replicate n false ++ true ∷ []) p ≡ Some true → p ≡ n
last_at zero zero e = refl
last_at zero (suc p) e = cc
last_at (suc n) zero e = cc
last_at (suc n) (suc p) e = ap suc (last_at n p e)

at_last : (n : ℕ) → slice_get (replicate n false ++ true ∷ []) n ≡ Some true
at_last zero = refl
at_last (suc n) = at_last n

plus_one : (p : ℕ) → suc p ≡ p + 1
plus_one p = omega arith

front_suc : {X : Type 0} (xs : List X) (p : ℕ) (x : X) (rest : List X) → drop p xs ≡ x ∷ rest → (slice_get xs p ≡ Some x) × (drop (suc p) xs ≡ rest)
front_suc [] zero x rest e = cc
front_suc [] (suc p) x rest e = cc
front_suc (y ∷ xs) zero x rest e = (cc, cc)
front_suc (y ∷ xs) (suc p) x rest e = front_suc xs p x rest e

front_of : {X : Type 0} (xs : List X) (p : ℕ) (x : X) (rest : List X) → drop p xs ≡ x ∷ rest → (slice_get xs p ≡ Some x) × (drop (p + 1) xs ≡ rest)
front_of xs p x rest e =
    let front = front_suc xs p x rest e in
    (front.0, subst (λ k. drop k xs ≡ rest) (plus_one p) front.1)

front_at_suc : {X : Type 0} (xs : List X) (p : ℕ) (x : X) → slice_get xs p ≡ Some x → drop p xs ≡ x ∷ drop (suc p) xs
front_at_suc [] p x e = cc
front_at_suc (y ∷ xs) zero x e = cc
front_at_suc (y ∷ xs) (suc p) x e = front_at_suc xs p x e

front_at : {X : Type 0} (xs : List X) (p : ℕ) (x : X) → slice_get xs p ≡ Some x → drop p xs ≡ x ∷ drop (p + 1) xs
front_at xs p x e = front_at_suc xs p x e ∙ ap (λ k. x ∷ drop k xs) (plus_one p)

behind_all : {X : Type 0} (xs : List X) (p : ℕ) → drop p xs ≡ [] → length xs ≤ p
behind_all [] p e = omega arith
behind_all (y ∷ xs) zero e = cc
behind_all (y ∷ xs) (suc p) e = omega (arith, behind_all xs p e)

within_front : {X : Type 0} (xs : List X) (p : ℕ) (x : X) → slice_get xs p ≡ Some x → p < length xs
within_front [] p x e = cc
within_front (y ∷ xs) zero x e = omega arith
within_front (y ∷ xs) (suc p) x e = omega (arith, within_front xs p x e)

module _ {L : Type 0} (m : Automaton L) (word : List L) (finals : m.finals ≡ replicate (length word) false ++ true ∷ []) (edges : (e : Edge L) → Contains m.edges e ↔ IsStep word e) where
  -- from the state of a place, no other word than the rest is accepted
  only_rest : (p : ℕ) (v : List L) → AcceptsFrom m p v → v ≡ drop p word
  only_rest p v (stop f) =
      let is : p ≡ length word = last_at (length word) p (subst (λ (z : List Bool). slice_get z p ≡ Some true) finals f) in
      sym (drop_all p word (omega (arith, is)))
  only_rest p v (read {q = q} {x = x} {w = w} has rest) =
      let step = (edges (record { from = p; letter = Some x; to = q })).0 has in
      let same : x ≡ step.0 = let e : Some x ≡ Some step.0 = step.2 in cc in
      let onward = only_rest q w rest in
      ap (λ z. x ∷ z) (onward ∙ ap (λ k. drop k word) step.3) ∙ ap (λ z. z ∷ drop (p + 1) word) same ∙ sym (front_at word p step.0 step.1)
  only_rest p v (skip {q = q} has rest) =
      let step = (edges (record { from = p; letter = None; to = q })).0 has in
      let e : None ≡ Some step.0 = step.2 in cc

  -- and the rest is
  rest_accepted : (rest : List L) (p : ℕ) → p ≤ length word → drop p word ≡ rest → AcceptsFrom m p rest
  rest_accepted [] p within is =
      let last : p ≡ length word = omega (arith, behind_all word p is, within) in
      stop (subst (λ (z : List Bool). slice_get z p ≡ Some true) (sym finals) (subst (λ k. slice_get (replicate (length word) false ++ true ∷ []) k ≡ Some true) (sym last) (at_last (length word))))
  rest_accepted (x ∷ rest) p within is =
      let front = front_of word p x rest is in
      read ((edges (record { from = p; letter = Some x; to = p + 1 })).1 (x, front.0, refl, refl)) (rest_accepted rest (p + 1) (omega (arith, within_front word p x front.0)) front.1)

  pub alone_accepts : (v : List L) → Accepts m v ↔ (v ≡ word)
  alone_accepts v = (only_rest 0 v, λ is. subst (Accepts m) (sym is) (rest_accepted word 0 (omega arith) refl))
