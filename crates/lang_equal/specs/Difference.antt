-- The difference of two languages (Hopcroft, Motwani and Ullman, Introduction to Automata Theory, section 4.4.2: automata are equivalent
-- where no word tells their starts apart).
use Rattle.std.specs.Prelude.{◌≤◌, ◌⊎◌, List, length}
use Rattle.lang_equal.specs.declared.sought.Sought.{Sought}
use Rattle.lang_equal.specs.declared.sought.Sought.TheVariants.{Differing, Outside}

-- the word is in the first set and not in the second
abbrev pub IsOutside : {L : Type 0} → (List L → Type 0) → (List L → Type 0) → List L → Type 0
IsOutside P Q w = P w × ¬ Q w

-- the word is in exactly one of the two
abbrev pub Differs : {L : Type 0} → (List L → Type 0) → (List L → Type 0) → List L → Type 0
Differs P Q w = (P w × ¬ Q w) ⊎ (Q w × ¬ P w)

-- a word of the set that no word of the set is shorter than
pub record IsShortest {L : Type 0} (P : List L → Type 0) (word : List L) : Type 0 where
  pub inside : P word
  pub least : (w : List L) → P w → length word ≤ length w

-- what holds of a word that is sought, by what holds of it where it is in the one set and where it is in the other
abbrev pub sought : Sought → Type 0 → Type 0 → Type 0
sought Differing P Q = (P × ¬ Q) ⊎ (Q × ¬ P)
sought Outside P Q = P × ¬ Q

-- the word is sought
abbrev pub IsSought : {L : Type 0} → Sought → (List L → Type 0) → (List L → Type 0) → List L → Type 0
IsSought which P Q w = sought which (P w) (Q w)
