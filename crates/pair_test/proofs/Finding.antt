-- The first number for which something holds, and bad fillings.
use Rattle.std.proofs.Common.{◌≡◌, ◌<◌, ◌≤◌, ◌+◌, ◌↔◌, ◌⊎◌, ℕ, Bool, true, List, Option, Some, None, IsTrue, get_or, length, min, refl, sym, ap, subst, ◌∙◌, inl, inr, arith, below_more}
use Rattle.std.specs.List.{slice_get}
use Rattle.std.proofs.lemmas.Bool.{cases_lt}
use Rattle.std.proofs.lemmas.Option.{same_Some, slice_get_read}
use Rattle.fsm_base.specs.declared.letters.Pair.{Pair}
use Rattle.pair_test.specs.Marks.{IsLeastFound, IsMarked, earliest}
use Rattle.pair_test.specs.Tests.{IsBadFor}
use Rattle.pair_test.specs.declared.ready.RuleTest.{RuleTest}

module _ (P : ℕ → Type 0) where
  pub least_found : (n : ℕ) → ((k : ℕ) → k < n → P k → ⊥) → P n → IsLeastFound P (Some n)
  least_found n before here =
      record {
        holds = here;
        least = λ other there. elim (cases_lt other n) as (λ _. n ≤ other) [
          | inl less ↦ absurd (before other less there)
          | inr more ↦ more
        ];
      }

  pub none_found : (n : ℕ) → ((k : ℕ) → k < n → P k → ⊥) → ((k : ℕ) → P k → k < n) → IsLeastFound P None
  none_found n before within k there = before k (within k there) there

  pub none_more : (n : ℕ) → ((k : ℕ) → k < n → P k → ⊥) → (P n → ⊥) → (k : ℕ) → k < n + 1 → P k → ⊥
  none_more n before here = below_more (λ k. P k → ⊥) n before here

pub least_same : (P Q : ℕ → Type 0) → ((n : ℕ) → P n ↔ Q n) → (found : Option ℕ) → IsLeastFound P found → IsLeastFound Q found
least_same P Q same (Some n) is = record { holds = (same n).0 is.holds; least = λ other there. is.least other ((same other).1 there) }
least_same P Q same None is = λ k there. is k ((same k).1 there)

pub earliest_found : (P Q R : ℕ → Type 0) → ((n : ℕ) → R n ↔ (P n ⊎ Q n)) → (a b : Option ℕ) → IsLeastFound P a → IsLeastFound Q b → IsLeastFound R (earliest a b)
earliest_found P Q R same (Some m) (Some n) first second =
    record {
      holds = elim (cases_lt m n) as (λ _. R (min m n)) [
        | inl less ↦ let e : m ≡ min m n = omega (arith, less) in subst R e ((same m).1 (inl first.holds))
        | inr more ↦ let e : n ≡ min m n = omega (arith, more) in subst R e ((same n).1 (inr second.holds))
      ];
      least = λ k h. elim ((same k).0 h) as (λ _. min m n ≤ k) [
        | inl p ↦ let b : m ≤ k = first.least k p in omega (arith, b)
        | inr q ↦ let b : n ≤ k = second.least k q in omega (arith, b)
      ];
    }
earliest_found P Q R same (Some m) None first second =
    record {
      holds = (same m).1 (inl first.holds);
      least = λ k h. elim ((same k).0 h) as (λ _. m ≤ k) [
        | inl p ↦ first.least k p
        | inr q ↦ absurd (second k q)
      ];
    }
earliest_found P Q R same None (Some n) first second =
    record {
      holds = (same n).1 (inr second.holds);
      least = λ k h. elim ((same k).0 h) as (λ _. n ≤ k) [
        | inl p ↦ absurd (first k p)
        | inr q ↦ second.least k q
      ];
    }
earliest_found P Q R same None None first second = λ k h. elim ((same k).0 h) as (λ _. ⊥) [
  | inl p ↦ first k p
  | inr q ↦ second k q
]

-- the mark at a place, read
pub mark_read : (holding : List Bool) (k : ℕ) (b : Bool) → k < length holding → b ≡ get_or holding k b → IsTrue b ↔ IsMarked holding k
mark_read holding k b within is =
    let read : slice_get holding k ≡ Some b = slice_get_read holding (length holding) k b refl within is in
    (λ e. read ∙ ap Some e, λ marked. same_Some b true (sym read ∙ marked))

-- what is bad is told by whether a context holds
pub bad_same : (t : RuleTest) (filling : Option Pair) (P Q : Type 0) → (P ↔ Q) → IsBadFor t filling P → IsBadFor t filling Q
bad_same t filling P Q same bad =
    elim bad as (λ _. IsBadFor t filling Q) [
      | inl h ↦ inl (h.0, λ q. h.1 (same.1 q))
      | inr h ↦ inr (h.0, same.0 h.1)
    ]
