-- The rule of a history, and what a step tells.
use Rattle.std.specs.Prelude.{ℕ, ◌≡◌, ◌==◌, true, List, [], ◌∷◌, ◌++◌, length, MatchBool}
use Rattle.logbook.specs.Pages.{Cell, Step, View, Book, Named}
use Rattle.publish_board.specs.declared.law.Entry.{Entry}
use Rattle.publish_board.specs.Histories.{IsLegal}

-- the first word is the length of the history, which is legal. A book has two words, of which this one leaves the second at 0
pub record IsKept {X : Type 0} (number : X → ℕ) (cells : List Cell) (log : List (Entry X)) : Type 0 where
  pub words : cells ≡ (length log, true) ∷ (0, true) ∷ []
  pub legal : IsLegal number log

-- the word that is the length
abbrev pub length_of : Book → Named
length_of b = record { tracked = true; key = 0; book = b }

-- the entry was added to all that had been seen; or the history was longer
abbrev pub Adds : {X : Type 0} → Step (Entry X) → View (Entry X) ℕ → ℕ → View (Entry X) ℕ → Type 0
Adds s v found w = MatchBool (found == s.old) (w.0 ≡ v.0 ++ s.ask ∷ []) (Unit {0})
