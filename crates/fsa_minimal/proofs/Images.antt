-- A homomorphism of complete automata keeps the language.
use Rattle.std.proofs.Common.{◌≡◌, ℕ, ◌+◌, ◌*◌, ◌<◌, ◌↔◌, List, Option, Some, true, false, not, Bool, IsTrue, length, get_or, refl, subst, sym, inl, inr, arith, ◌∙◌}
use Rattle.std.proofs.lemmas.Bool.{cases_lt}
use mathlib.Core.Bool.{beq}
use Rattle.std.specs.List.{slice_get}
use Rattle.std.proofs.lemmas.Option.{slice_get_within, slice_get-get_or}
use Rattle.std.proofs.lemmas.Nat.{mul-add-lt}
use Rattle.word_relations.proofs.Places.{same_at}
use Rattle.fsa.specs.Complete.{Complete, IsComplete, AcceptsFrom, Accepts, stop, read, next_state}
use Rattle.fsa_minimal.specs.Images.{AreImages}

-- the letters before a bound lead a state to states that become those to which they lead the image
abbrev pub GoesOnBelow : {L : Type 0} → Complete L → Complete L → List (Option ℕ) → ℕ → ℕ → ℕ → Type 0
GoesOnBelow a b images s i bound = (place to : ℕ) → place < bound → next_state a s place ≡ Some to
    → (u : ℕ) × (slice_get images to ≡ Some (Some u)) × (next_state b i place ≡ Some u)

pub GoesOnBelow-more : {L : Type 0} (a b : Complete L) (images : List (Option ℕ)) (s i bound t u : ℕ) → next_state a s bound ≡ Some t → slice_get images t ≡ Some (Some u) → next_state b i bound ≡ Some u → GoesOnBelow a b images s i bound → GoesOnBelow a b images s i (bound + 1)
GoesOnBelow-more a b images s i bound t u goes is image_goes below place to l go =
    elim (cases_lt place bound) [
      | inl old ↦ below place to old go
      | inr past ↦
          let this : place ≡ bound = omega arith in
          let same : t ≡ to = same_at a.next (s * length a.letters + bound) t to goes (subst (λ k. next_state a s k ≡ Some to) this go) in
          (u, subst (λ v. slice_get images v ≡ Some (Some u)) same is, subst (λ k. next_state b i k ≡ Some u) (sym this) image_goes)
    ]

pub same_bools : (p q : Bool) → not (beq p q) ≡ false → p ≡ q
same_bools true true e = refl
same_bools true false e = absurd (cc)
same_bools false true e = absurd (cc)
same_bools false false e = refl

-- two places hold the same flag, where both are set or both aren't
pub same_flags : (xs ys : List Bool) (s i : ℕ) (p q : Bool) → s < length xs → i < length ys → (IsTrue p ↔ (slice_get xs s ≡ Some true)) → (IsTrue q ↔ (slice_get ys i ≡ Some true)) → p ≡ q → slice_get xs s ≡ slice_get ys i
same_flags xs ys s i p q there_s there_i is_p is_q same = go (get_or xs s false) (get_or ys i false) (slice_get-get_or xs s false there_s) (slice_get-get_or ys i false there_i)
  where
    go : (x y : Bool) → slice_get xs s ≡ Some x → slice_get ys i ≡ Some y → slice_get xs s ≡ slice_get ys i
    go true true at_s at_i = at_s ∙ sym at_i
    go false false at_s at_i = at_s ∙ sym at_i
    go true false at_s at_i = let set : slice_get ys i ≡ Some true = is_q.0 (subst IsTrue same (is_p.1 at_s)) in let clash : Some false ≡ Some true = sym at_i ∙ set in absurd (cc)
    go false true at_s at_i = let set : slice_get xs s ≡ Some true = is_p.0 (subst IsTrue (sym same) (is_q.1 at_i)) in let clash : Some false ≡ Some true = sym at_s ∙ set in absurd (cc)

-- the letter at a place leads from a state that is there to some state
pub leads_somewhere : {L : Type 0} (d : Complete L) → IsComplete d → (s k : ℕ) → s < length d.finals → k < length d.letters → (t : ℕ) × (next_state d s k ≡ Some t)
leads_somewhere d ok s k state place =
    let i : ℕ = s * length d.letters + k in
    let full : length d.next ≡ length d.finals * length d.letters = ok.full in
    let inside : i < length d.next = let m = mul-add-lt s (length d.letters) k (length d.finals) state place in omega arith in
    (_, slice_get-get_or d.next i 0 inside)

module _ {L : Type 0} (a b : Complete L) (ok : IsComplete a) (letters : b.letters ≡ a.letters) (images : List (Option ℕ)) (are : AreImages a b images) where
  -- an accepted word is accepted from the image
  pub images_down : {s : ℕ} {w : List L} → AcceptsFrom a s w → (i : ℕ) → slice_get images s ≡ Some (Some i) → AcceptsFrom b i w
  images_down {s} (stop final) i is = stop (sym (are.goes_on s i is).final ∙ final)
  images_down {s} (read {t = t} {x = x} k at go rest) i is =
      let place : k < length a.letters = slice_get_within a.letters k x at in
      let on = (are.goes_on s i is).step k t place go in
      read k (subst (λ ls. slice_get ls k ≡ Some x) (sym letters) at) on.2 (images_down rest on.0 on.1)

  -- a word that is accepted from the image is accepted
  pub images_up : {i : ℕ} {w : List L} → AcceptsFrom b i w → (s : ℕ) → slice_get images s ≡ Some (Some i) → AcceptsFrom a s w
  images_up {i} (stop final) s is = stop ((are.goes_on s i is).final ∙ final)
  images_up {i} (read {t = u} {x = x} k at go rest) s is =
      let letter : slice_get a.letters k ≡ Some x = subst (λ ls. slice_get ls k ≡ Some x) letters at in
      let place : k < length a.letters = slice_get_within a.letters k x letter in
      let t = leads_somewhere a ok s k (are.there s i is) place in
      let on = (are.goes_on s i is).step k t.0 place t.1 in
      let same : on.0 ≡ u = same_at b.next (i * length b.letters + k) on.0 u on.2 go in
      read k letter t.1 (images_up rest t.0 (subst (λ v. slice_get images t.0 ≡ Some (Some v)) same on.1))

  pub images_language : (w : List L) → Accepts b w ↔ Accepts a w
  images_language w = (λ h. images_up h 0 are.start, λ h. images_down h 0 are.start)
