-- The first broken rule of a row of rules, and the first place at which it is broken. `BrokenAt` says whether a rule is broken at a
-- place; rules and places are counted from 1.
use Rattle.std.specs.Prelude.{◌≡◌, ◌≤◌, ◌+◌, ℕ, List, ◌∷◌, ◌++◌, Contains, length}
use Rattle.pair_test.specs.declared.verdict.Verdict.{Verdict}
use Rattle.pair_test.specs.declared.verdict.Verdict.TheVariants.{Pass, Fail}

-- the least number for which something holds
pub record IsLeast (P : ℕ → Type 0) (n : ℕ) : Type 0 where
  pub holds : P n
  pub least : (other : ℕ) → P other → n ≤ other

-- the rule of this number is broken and none before it is, and this is the least place at which it is broken
pub record IsFirstBroken {R : Type 0} (BrokenAt : R → ℕ → Type 0) (rules : List R) (number place : ℕ) : Type 0 where
  pub before : List R
  pub broken : R
  pub behind : List R
  pub rules_are : rules ≡ before ++ broken ∷ behind
  pub number_is : number ≡ length before + 1
  pub kept : (rule : R) → Contains before rule → (at : ℕ) → ¬ BrokenAt rule at
  pub place_is : IsLeast (BrokenAt broken) place

-- a string passes where no rule is broken, and fails by the first broken rule
abbrev pub IsVerdict : {R : Type 0} → (R → ℕ → Type 0) → List R → Verdict → Type 0
IsVerdict {R} BrokenAt rules Pass = (rule : R) → Contains rules rule → (at : ℕ) → ¬ BrokenAt rule at
IsVerdict BrokenAt rules (Fail rule place) = IsFirstBroken BrokenAt rules rule place
