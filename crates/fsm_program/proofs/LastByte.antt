-- Bytes without a last byte.
use Rattle.std.proofs.Common.{◌≡◌, ◌⊎◌, ℕ, Bool, cond, List, [], ◌∷◌, ◌++◌, ◌≤◌, length, length-append, arith, refl, sym, ap, ◌∙◌, inl, inr}
use Rattle.std.proofs.lemmas.Bool.Decides.{eqb_tells}
use Rattle.reply_meaning.specs.Replies.{without_last}

-- what was dropped is the byte or nothing
dropped_cases : (last : ℕ) (bytes : List ℕ) → (bytes ≡ without_last last bytes) ⊎ (bytes ≡ without_last last bytes ++ last ∷ [])
dropped_cases last [] = inl refl
dropped_cases last (b ∷ []) = elim (eqb_tells b last) as (λ _. (b ∷ [] ≡ without_last last (b ∷ [])) ⊎ (b ∷ [] ≡ without_last last (b ∷ []) ++ last ∷ [])) [
  | inl same ↦ inr (ap (λ (n : ℕ). n ∷ []) same.1 ∙ sym (ap (λ (t : Bool). cond t [] (b ∷ []) ++ last ∷ []) same.0))
  | inr apart ↦ inl (sym (ap (λ (t : Bool). cond t [] (b ∷ [])) apart.0))
]
dropped_cases last (b ∷ c ∷ bytes) = elim (dropped_cases last (c ∷ bytes)) as (λ _. (b ∷ c ∷ bytes ≡ without_last last (b ∷ c ∷ bytes)) ⊎ (b ∷ c ∷ bytes ≡ without_last last (b ∷ c ∷ bytes) ++ last ∷ [])) [
  | inl e ↦ inl (ap (λ (z : List ℕ). b ∷ z) e)
  | inr e ↦ inr (ap (λ (z : List ℕ). b ∷ z) e)
]

-- it isn't longer then
pub length-without_last : (last : ℕ) (bytes : List ℕ) → length (without_last last bytes) ≤ length bytes
length-without_last last bytes = elim (dropped_cases last bytes) as (λ _. length (without_last last bytes) ≤ length bytes) [
  | inl e ↦ omega (arith, ap length e)
  | inr e ↦ omega (arith, ap length e, length-append (without_last last bytes) (last ∷ []))
]
