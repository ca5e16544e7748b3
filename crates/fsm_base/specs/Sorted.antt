-- The entries of an alphabet sorted by their texts, in the order of bytes, and how the longest symbol is
-- found among them.
use Rattle.std.specs.Prelude.{◌≡◌, ℕ, true, List, [], length, map, Contains, slice_index_or}
use Rattle.std.specs.Cmp.Lexicographic.{slice_cmp}
use Rattle.std.specs.List.Sorted.{IsSortedByKey}
use Rattle.std.specs.Ordering.{nat_cmp, is_le}
use Rattle.fsm_base.specs.Longest.{IsLongest}
use Rattle.fsm_base.specs.declared.letters.Sym.{Sym}
use Rattle.fsm_base.specs.declared.longest.Entry.{Entry}

-- the text stands up to these bytes in their order
abbrev pub IsUpTo : List ℕ → List ℕ → Type 0
IsUpTo text bytes = is_le (slice_cmp nat_cmp text bytes) ≡ true

-- entries in the order of their texts
abbrev pub IsByText : List Entry → Type 0
IsByText entries = IsSortedByKey (λ entry. entry.text) (slice_cmp nat_cmp) entries

-- the texts of the entries, and the text of the entry at a place
abbrev pub texts_in : List Entry → List (List ℕ)
texts_in entries = map (λ entry. entry.text) entries

abbrev pub text_at : List Entry → ℕ → List ℕ
text_at entries place = slice_index_or (texts_in entries) place []

-- the last text up to these bytes
pub record IsLastUpTo (texts : List (List ℕ)) (bytes text : List ℕ) : Type 0 where
  pub listed : Contains texts text
  pub up_to : IsUpTo text bytes
  pub last : (other : List ℕ) → Contains texts other → IsUpTo other bytes → IsUpTo other text

-- every text stands behind these bytes
abbrev pub NoneUpTo : List (List ℕ) → List ℕ → Type 0
NoneUpTo texts bytes = (text : List ℕ) → Contains texts text → ¬ (IsUpTo text bytes)

-- these symbols with their texts in the table, as entries
abbrev pub entries_of : List (List ℕ) → List Sym → List Entry
entries_of table symbols = map (λ symbol. record { text = slice_index_or table symbol.0 []; symbol = symbol }) symbols

-- an entry as a pair of the alphabet
abbrev pub pair_of : Entry → Sym × List ℕ
pair_of entry = (entry.symbol, entry.text)

-- the symbol whose text is the longest that the bytes begin with, and the length of that text
pub record IsNext (entries : List Entry) (bytes : List ℕ) (symbol : Sym) (len : ℕ) : Type 0 where
  pub text : List ℕ
  pub listed : Contains entries (record { text = text; symbol = symbol })
  pub longest : IsLongest (texts_in entries) bytes text
  pub len_is : len ≡ length text
