-- What stands in front of characters: a declared symbol, or a flag diacritic.
use Rattle.std.specs.Prelude.{◌≡◌, ◌<◌, ◌≤◌, ◌++◌, ℕ, false, List, [], ◌∷◌, length, take, Contains}
use Rattle.std.specs.List.{list_any}
use Rattle.std.specs.Str.{encode_utf8_all}
use Rattle.regex_ast.specs.Flags.{IsFlag}
use Rattle.regex_ast.specs.declared.lexc.FlagOp.{FlagOp}
use Rattle.flag_texts.specs.Reading.{IsFlagOf}
use Rattle.lexc_forms.specs.Letters.{is_mark}

-- so many characters in front are a symbol, and no longer front is one
pub record IsLongestFront (symbols : List (List ℕ)) (text : List ℕ) (n : ℕ) : Type 0 where
  pub some : 0 < n
  pub within : n ≤ length text
  pub listed : Contains symbols (take n text)
  pub longest : (m : ℕ) → m ≤ length text → Contains symbols (take m text) → m ≤ n

abbrev pub HasNoFront : List (List ℕ) → List ℕ → Type 0
HasNoFront symbols text = (m : ℕ) → m ≤ length text → Contains symbols (take m text) → ⊥

-- characters between two `@`, and no `@` among them
abbrev pub IsMarked : List ℕ → Type 0
IsMarked text = (inner : List ℕ) × (text ≡ 64 ∷ inner ++ 64 ∷ []) × (list_any is_mark inner ≡ false)

-- only so many characters in front can be marked so
pub record IsOnlyMarked (text : List ℕ) (n : ℕ) : Type 0 where
  pub some : 0 < n
  pub within : n ≤ length text
  pub only : (m : ℕ) → m ≤ length text → IsMarked (take m text) → m ≡ n

abbrev pub HasNoMarked : List ℕ → Type 0
HasNoMarked text = (m : ℕ) → m ≤ length text → IsMarked (take m text) → ⊥

-- so many characters in front are this flag, and no other front is one
pub record IsFlagFront (text : List ℕ) (flag : FlagOp) (n : ℕ) : Type 0 where
  pub some : 0 < n
  pub within : n ≤ length text
  pub flag_is : IsFlagOf (encode_utf8_all (take n text)) flag
  pub only : (m : ℕ) → m ≤ length text → IsFlag (encode_utf8_all (take m text)) → m ≡ n

abbrev pub HasNoFlag : List ℕ → Type 0
HasNoFlag text = (m : ℕ) → m ≤ length text → IsFlag (encode_utf8_all (take m text)) → ⊥
