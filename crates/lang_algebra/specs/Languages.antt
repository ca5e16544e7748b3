-- A complete automaton as a language over a list of letters.
use Rattle.std.specs.Prelude.{◌≡◌, ◌≤◌, ◌↔◌, ℕ, List, length}
use Rattle.fsa.specs.Complete.{Complete, IsComplete, Accepts}

-- it is over exactly these letters, in their order, and its words are those of the set
pub record IsLang {L : Type 0} (letters : List L) (P : List L → Type 0) (lang : Complete L) : Type 0 where
  pub complete : IsComplete lang
  pub over : lang.letters ≡ letters
  pub words : (w : List L) → Accepts lang w ↔ P w

-- some complete automaton of the language over the letters has so many states, and none has fewer (Hopcroft, Motwani
-- and Ullman, Introduction to Automata Theory, section 4.4)
pub record IsFewestCount {L : Type 0} (letters : List L) (P : List L → Type 0) (count : ℕ) : Type 0 where
  pub some : (d : Complete L) × IsLang letters P d × (length d.finals ≡ count)
  pub least : (d : Complete L) → IsLang letters P d → count ≤ length d.finals
