-- An insertion by its places. A word of n symbols has the places 0 to n: before its first symbol, between two of them, and behind its last one.
-- At each place k stands a word jk, and the lower word of `s1 .. sn` is `j0 s1 j1 .. sn jn`.
use Rattle.std.specs.Prelude.{◌≡◌, ◌⊎◌, ◌+◌, Bool, false, List, [], ◌∷◌, ◌++◌, length}
use Rattle.regex_ast.specs.declared.expr.Side.{Side}
use Rattle.regex_ast.specs.declared.expr.Side.TheVariants.{UpUp, LowUp, UpLow, LowLow}
use Rattle.fsm_base.specs.declared.letters.Sym.{Sym}
use Rattle.regex_ast.specs.Terms.{Contexts, Term, insert, no_context, no_group, no_mapping, rules, then_group}
use Rattle.regex_ast.specs.declared.expr.Atom.{Atom}
use Rattle.word_relations.specs.Relations.{AreSame}
use Rattle.word_relations.specs.Words.{IsOver}
use Rattle.expr_meaning.specs.Laws.{Has, Pairs}
use Rattle.expr_meaning.specs.Leaves.{stands_for}
use Rattle.expr_meaning.specs.Meaning.{InContext}
use Rattle.expr_meaning.specs.Operators.{inner}

-- symbols, and before each of them a word: `j0 s1 j1 s2`
abbrev pub with_before : {L : Type 0} → List (List L) → List L → List L
with_before (word ∷ words) (symbol ∷ symbols) = word ++ symbol ∷ with_before words symbols
with_before _ _ = []

-- symbols, and behind each of them a word: `s1 j1 s2 j2`
abbrev pub with_behind : {L : Type 0} → List L → List (List L) → List L
with_behind (symbol ∷ symbols) (word ∷ words) = symbol ∷ word ++ with_behind symbols words
with_behind _ _ = []

-- the lower word, by the words at the places 0 to n
abbrev pub filled : {L : Type 0} → List (List L) → List L → List L
filled [] u = u
filled (word ∷ words) u = word ++ with_behind u words

-- of the upper and the lower word before a place the one that a left context reads, and of those behind it the one that a right context
-- reads
abbrev pub read_left : {L : Type 0} → Side → List L → List L → List L
read_left UpUp up low = up
read_left LowUp up low = low
read_left UpLow up low = up
read_left LowLow up low = low

abbrev pub read_right : {L : Type 0} → Side → List L → List L → List L
read_right UpUp up low = up
read_right LowUp up low = up
read_right UpLow up low = low
read_right LowLow up low = low

-- where a word may be put in, one of the set stands, or, where insertions are optional, nothing; elsewhere nothing stands
abbrev pub IsFilling : {L : Type 0} → Bool → (List L → Type 0) → Type 0 → List L → Type 0
IsFilling optional P May word = (May × P word) ⊎ ((optional ≡ false → ¬ May) × (word ≡ []))

-- `P`: the words that may be put in. `May x z`: where one may be, between the word x that a left context reads and the word z that a right
-- one reads
module _ {L : Type 0} (optional : Bool) (side : Side) (P : List L → Type 0) (May : List L → List L → Type 0) where
  -- each of the words stands rightly at its place, of which the symbols x stand before it and z behind it
  abbrev pub AreFillings : List (List L) → List L → Type 0
  AreFillings words u =
      (x z : List L) (before : List (List L)) (word : List L) (behind : List (List L)) → u ≡ x ++ z → words ≡ before ++ word ∷ behind → length before ≡ length x
      → IsFilling optional P (May (read_left side x (with_before before x)) (read_right side z (with_behind z behind))) word

  -- the insertion relates a word over the alphabet to the lower word
  abbrev pub IsInserted : List L → List L → List L → Type 0
  IsInserted alphabet u w = IsOver alphabet u × (words : List (List L)) × (length words ≡ length u + 1) × (w ≡ filled words u) × AreFillings words u

-- `[..] -> A` relates words by the words that it puts in at their places
abbrev pub InsertionFillsPlaces : Type 0
InsertionFillsPlaces =
    (alphabet : List Sym) (optional : Bool) (a : Term Atom) (side : Side) (contexts : Contexts Atom)
    → AreSame (Pairs alphabet (rules optional (then_group (insert a no_mapping) side contexts no_group)))
    (IsInserted optional side (λ word. Has alphabet a (inner word)) (λ x z. (contexts ≡ no_context) ⊎ InContext stands_for alphabet contexts (inner x) (inner z)) alphabet)
