-- Backslashes in a row: the third one turns back what the second one did.
use Rattle.std.proofs.Common.{◌≡◌, ◌+◌, ℕ, zero, suc, arith, List, refl, subst, sym}
use Rattle.fsm_base.specs.declared.letters.Bound.{Bound}
use Rattle.expr_meaning.specs.Operators.{IsNotOne}
use Rattle.network_sets.specs.Few.{IsFewOf}
use Rattle.network_sets.proofs.Alike.{SameWords, words_then, words_back}

module _ {L : Type 0} (alphabet : List L) (P : List (Bound L) → Type 0) where
  -- three make what one makes
  not_one_thrice : (n : ℕ) → SameWords (IsNotOne alphabet (suc (suc (suc n))) P) (IsNotOne alphabet (suc n) P)
  not_one_thrice n w = (λ h. (h.0, λ p. h.1 (h.0, λ x. x.1 p)), λ h. (h.0, λ x. x.1 h))

  -- two more make the same, so often as one likes
  pub not_one_pairs : (pairs n more : ℕ) → more ≡ suc n + (pairs + pairs) → SameWords (IsNotOne alphabet (suc n) P) (IsNotOne alphabet more P)
  not_one_pairs zero n more is = subst (λ k. SameWords (IsNotOne alphabet (suc n) P) (IsNotOne alphabet k P)) (same n more is) (λ w. (λ h. h, λ h. h))
    where
      same : (n more : ℕ) → more ≡ suc n + (zero + zero) → suc n ≡ more
      same n more is = omega (arith, is)
  not_one_pairs (suc pairs) n more is =
      let k = suc (n + (pairs + pairs)) in
      let before = not_one_pairs pairs n k (rest n pairs) in
      subst (λ m. SameWords (IsNotOne alphabet (suc n) P) (IsNotOne alphabet m P)) (same n pairs more is)
      (words_then (IsNotOne alphabet (suc n) P) (IsNotOne alphabet k P) (IsNotOne alphabet (suc (suc k)) P) before
      (words_back (IsNotOne alphabet (suc (suc k)) P) (IsNotOne alphabet k P) (not_one_thrice (n + (pairs + pairs)))))
    where
      rest : (n pairs : ℕ) → suc (n + (pairs + pairs)) ≡ suc n + (pairs + pairs)
      rest n pairs = omega arith

      same : (n pairs more : ℕ) → more ≡ suc n + (suc pairs + suc pairs) → suc (suc (suc (n + (pairs + pairs)))) ≡ more
      same n pairs more is = omega (arith, is)

  -- one or two make what they stand for
  pub not_one_few : (few count : ℕ) → IsFewOf few count → SameWords (IsNotOne alphabet few P) (IsNotOne alphabet count P)
  not_one_few zero count is = subst (λ k. SameWords (IsNotOne alphabet zero P) (IsNotOne alphabet k P)) (sym (is.some refl)) (λ w. (λ h. h, λ h. h))
  not_one_few (suc n) count is = not_one_pairs is.pairs n count is.left_out
