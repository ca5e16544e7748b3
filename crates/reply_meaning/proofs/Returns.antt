-- Bytes with a last one that is dropped, or another.
use Rattle.std.proofs.Common.{◌≡◌, ℕ, ◌==◌, Bool, true, false, cond, List, [], ◌∷◌, ◌++◌, refl, ap, inl, inr}
use Rattle.std.proofs.lemmas.Bool.Decides.{eqb_tells}
use Rattle.reply_meaning.specs.Replies.{without_last}

pub not_same : (m n : ℕ) → (m ≡ n → ⊥) → (m == n) ≡ false
not_same m n other = elim (eqb_tells m n) as (λ _. (m == n) ≡ false) [ inl same ↦ absurd (other same.1) | inr apart ↦ apart.0 ]

-- the byte at the end is dropped
pub last_dropped : (last : ℕ) (front : List ℕ) → without_last last (front ++ last ∷ []) ≡ front
last_dropped last [] = ap (λ (t : Bool). cond t [] (last ∷ [])) (same_number last)
  where
    same_number : (n : ℕ) → (n == n) ≡ true
    same_number n = elim (eqb_tells n n) as (λ _. (n == n) ≡ true) [ inl same ↦ same.0 | inr apart ↦ absurd (apart.1 refl) ]
last_dropped last (b ∷ []) = ap (λ (z : List ℕ). b ∷ z) (last_dropped last [])
last_dropped last (b ∷ c ∷ front) = ap (λ (z : List ℕ). b ∷ z) (last_dropped last (c ∷ front))

-- and no other is
pub last_kept : (last : ℕ) (front : List ℕ) (other : ℕ) → (other == last) ≡ false → without_last last (front ++ other ∷ []) ≡ front ++ other ∷ []
last_kept last [] other apart = ap (λ (b : Bool). cond b [] (other ∷ [])) apart
last_kept last (b ∷ []) other apart = ap (λ (z : List ℕ). b ∷ z) (last_kept last [] other apart)
last_kept last (b ∷ c ∷ front) other apart = ap (λ (z : List ℕ). b ∷ z) (last_kept last (c ∷ front) other apart)
