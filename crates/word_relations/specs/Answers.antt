-- What a look-up answers: all related texts, or that they are many, or that they are infinitely many.
-- A set of texts is a test on lists of bytes. Exactly one kind of answer is lawful for each set.
use Rattle.std.specs.Prelude.{◌≡◌, ◌<◌, ◌≤◌, ◌++◌, ◌↔◌, ℕ, List, [], ◌∷◌, length, All, Contains, zero, suc}
use Rattle.std.specs.declared.cmp.Ordering.TheVariants.{Less}
use Rattle.std.specs.Cmp.Lexicographic.{slice_cmp}
use Rattle.std.specs.Ordering.{nat_cmp}
use Rattle.word_relations.specs.Words.{joined, IsDistinct}

-- the greatest number of answers that are listed for a word
abbrev pub most_answers : ℕ
most_answers = 4096

-- the texts of the words of a set, a word being a list of symbols, each by its text
abbrev pub Texts : (List (List ℕ) → Type 0) → List ℕ → Type 0
Texts P text = (word : List (List ℕ)) × P word × (text ≡ joined word)

-- each text is below the next by its bytes, so each stands once
abbrev pub IsInOrder : List (List ℕ) → Type 0
IsInOrder [] = Unit {0}
IsInOrder (text ∷ []) = Unit {0}
IsInOrder (text ∷ next ∷ texts) = (slice_cmp nat_cmp text next ≡ Less) × IsInOrder (next ∷ texts)

-- a text, so many times
abbrev pub times : ℕ → List ℕ → List ℕ
times zero text = []
times (suc m) text = text ++ times m text

-- the list has all texts of the set, each once, sorted by bytes, and isn't too long
pub record AreAll (T : List ℕ → Type 0) (texts : List (List ℕ)) : Type 0 where
  pub few : length texts ≤ most_answers
  pub all : (text : List ℕ) → T text ↔ Contains texts text
  pub in_order : IsInOrder texts

-- finitely many texts, and more than are listed: some number bounds their lengths
pub record AreMore (T : List ℕ → Type 0) : Type 0 where
  pub bound : ℕ
  pub finite : (text : List ℕ) → T text → length text ≤ bound
  pub texts : List (List ℕ)
  pub beyond : most_answers < length texts
  pub distinct : IsDistinct texts
  pub related : All T texts

-- infinitely many texts, shown by a loop: before, round any number of times, and after is one of them
pub record IsLoop (T : List ℕ → Type 0) (before round after : List ℕ) : Type 0 where
  pub goes_round : 0 < length round
  pub related : (m : ℕ) → T (before ++ times m round ++ after)

-- an answer
pub data Found : Type 0 where
  strings : List (List ℕ) → Found
  more : Found
  loop : List ℕ → List ℕ → List ℕ → Found

-- an answer that is lawful for the set of texts
abbrev pub Answers : (List ℕ → Type 0) → Found → Type 0
Answers T (strings texts) = AreAll T texts
Answers T more = AreMore T
Answers T (loop before round after) = IsLoop T before round after
