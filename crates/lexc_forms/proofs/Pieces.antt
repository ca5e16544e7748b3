-- How letters are cut, place by place.
use Rattle.std.proofs.Common.{◌≡◌, ◌+◌, ◌<◌, ◌≤◌, ℕ, suc, Bool, true, false, List, [], ◌∷◌, ◌++◌, length, take, drop, drop-cons, get_or, Option, None, Some, Contains, refl, sym, ap, subst, ◌∙◌, arith, append_assoc, append-nil}
use Rattle.std.proofs.lemmas.List.{drop-map}
use Rattle.std.specs.Bool.{if◌then◌else◌}
use Rattle.std.specs.Str.{encode_utf8_all}
use Rattle.regex_ast.specs.Flags.{IsFlag, valued, plain}
use Rattle.regex_ast.specs.declared.expr.Raw.{Raw}
use Rattle.regex_ast.specs.declared.lexc.FlagOp.{FlagOp}
use Rattle.regex_ast.specs.declared.lexc.Piece.{Piece}
use Rattle.regex_ast.specs.declared.lexc.Piece.TheVariants.{Flag}
use Rattle.flag_texts.specs.Reading.{IsFlagOf, MayHave, letter_of, ending_of}
use Rattle.lexc_forms.specs.declared.letters.Letter.{Letter}
use Rattle.lexc_forms.specs.Letters.{character_of, characters_of}
use Rattle.lexc_forms.specs.Fronts.{HasNoFront, IsLongestFront, HasNoFlag, IsFlagFront}
use Rattle.lexc_forms.specs.Forms.{IsWhole, symbol, flag, IsLongestPiece, HasNoPiece, symbol_of, is_nothing, alone, CutsInto, ended, longest, one}

-- a flag by its parts is a flag
pub flag_of_parts : (text : List ℕ) (f : FlagOp) → IsFlagOf text f → IsFlag text
flag_of_parts text f is = by f.value is.value is.spelled
  where
    by : (value : Option (List ℕ)) → MayHave f.kind value → text ≡ 64 ∷ letter_of f.kind ∷ 46 ∷ f.feature ++ ending_of value → IsFlag text
    by None may e = plain (letter_of f.kind) f.feature may is.feature e
    by (Some value) may e = valued (letter_of f.kind) f.feature value may.0 is.feature may.1 (e ∙ sym (append_assoc (64 ∷ letter_of f.kind ∷ 46 ∷ f.feature) (46 ∷ value) (64 ∷ [])))

module _ (declared : List (List ℕ)) (text : List ℕ) where
  -- what a front is that is a declared symbol or a flag
  whole_by : (front : List ℕ) (piece : Piece Raw) (P : Type 0) → IsWhole declared front piece → (Contains declared front → P) → (IsFlag (encode_utf8_all front) → P) → P
  whole_by front piece P (symbol listed) by_symbol by_flag = by_symbol listed
  whole_by front piece P (flag f is) by_symbol by_flag = by_flag (flag_of_parts (encode_utf8_all front) f is)

  pub no_piece : HasNoFront declared text → HasNoFlag text → HasNoPiece declared text
  no_piece no_symbol no_flag m piece fits whole = whole_by (take m text) piece ⊥ whole (no_symbol m fits) (no_flag m fits)

  pub symbol_alone : (n : ℕ) → IsLongestFront declared text n → HasNoFlag text → IsLongestPiece declared text n (symbol_of (take n text))
  symbol_alone n front no_flag = record {
    some = front.some;
    within = front.within;
    whole = symbol front.listed;
    longest = λ m other fits whole. whole_by (take m text) other (m ≤ n) whole (front.longest m fits) (λ is. absurd (no_flag m fits is));
  }

  pub flag_alone : (n : ℕ) (f : FlagOp) → HasNoFront declared text → IsFlagFront text f n → IsLongestPiece declared text n (Flag f)
  flag_alone n f no_symbol front = record {
    some = front.some;
    within = front.within;
    whole = flag f front.flag_is;
    longest = λ m other fits whole. whole_by (take m text) other (m ≤ n) whole (λ is. absurd (no_symbol m fits is)) (λ is. omega (arith, front.only m fits is));
  }

  module _ (n k : ℕ) (f : FlagOp) (front : IsLongestFront declared text n) (other : IsFlagFront text f k) where
    pub flag_first : n ≤ k → IsLongestPiece declared text k (Flag f)
    flag_first less = record {
      some = other.some;
      within = other.within;
      whole = flag f other.flag_is;
      longest = λ m piece fits whole. whole_by (take m text) piece (m ≤ k) whole (λ is. omega (arith, front.longest m fits is)) (λ is. omega (arith, other.only m fits is));
    }

    pub symbol_first : k < n → IsLongestPiece declared text n (symbol_of (take n text))
    symbol_first more = record {
      some = front.some;
      within = front.within;
      whole = symbol front.listed;
      longest = λ m piece fits whole. whole_by (take m text) piece (m ≤ n) whole (front.longest m fits) (λ is. omega (arith, other.only m fits is));
    }

-- what a letter gives alone
pub gives_nothing : (letter : Letter) → is_nothing letter ≡ true → alone letter ≡ []
gives_nothing letter is = ap (λ (b : Bool). if b then [] else symbol_of (character_of letter ∷ []) ∷ []) is

pub gives_itself : (letter : Letter) → is_nothing letter ≡ false → alone letter ≡ symbol_of (character_of letter ∷ []) ∷ []
gives_itself letter is = ap (λ (b : Bool). if b then [] else symbol_of (character_of letter ∷ []) ∷ []) is

-- The loop: what is cut so far, and the other letters.

module _ (declared : List (List ℕ)) (letters : List Letter) where
  abbrev pub SoFar : List Letter → List (Piece Raw) → Type 0
  SoFar rest pieces = (more : List (Piece Raw)) → CutsInto declared rest more → CutsInto declared letters (pieces ++ more)

  pub longest_taken : (rest : List Letter) (text : List ℕ) (pieces pushed : List (Piece Raw)) (piece : Piece Raw) (n : ℕ) → text ≡ characters_of rest → IsLongestPiece declared text n piece → pushed ≡ pieces ++ piece ∷ [] → SoFar rest pieces → SoFar (drop n rest) pushed
  longest_taken rest text pieces pushed piece n text_is front pushed_is so_far = λ more cuts.
      subst (CutsInto declared letters) (sym (ap (λ (z : List (Piece Raw)). z ++ more) pushed_is ∙ append_assoc pieces (piece ∷ []) more))
      (so_far (piece ∷ more) (longest rest n piece more (subst (λ (t : List ℕ). IsLongestPiece declared t n piece) text_is front) cuts))

  pub one_taken : (rest : List Letter) (text : List ℕ) (letter : Letter) (others : List Letter) (pieces pushed : List (Piece Raw)) → text ≡ characters_of rest → rest ≡ letter ∷ others → HasNoPiece declared text → pushed ≡ pieces ++ alone letter → SoFar rest pieces → SoFar others pushed
  one_taken rest text letter others pieces pushed text_is split none pushed_is so_far = λ more cuts.
      subst (CutsInto declared letters) (sym (ap (λ (z : List (Piece Raw)). z ++ more) pushed_is ∙ append_assoc pieces (alone letter) more))
      (so_far (alone letter ++ more) (subst (λ (r : List Letter). CutsInto declared r (alone letter ++ more)) (sym split) (one letter others more (subst (HasNoPiece declared) (text_is ∙ ap characters_of split) none) cuts)))

-- the characters behind a front
pub text_behind : (rest : List Letter) (text behind : List ℕ) (left : List Letter) (n : ℕ) → text ≡ characters_of rest → behind ≡ drop n text → left ≡ drop n rest → behind ≡ characters_of left
text_behind rest text behind left n text_is behind_is left_is = behind_is ∙ ap (drop n) text_is ∙ drop-map character_of n rest ∙ ap characters_of (sym left_is)

pub text_behind_one : (rest : List Letter) (text behind : List ℕ) (letter : Letter) (others : List Letter) → text ≡ characters_of rest → rest ≡ letter ∷ others → behind ≡ drop 1 text → behind ≡ characters_of others
text_behind_one rest text behind letter others text_is split behind_is = behind_is ∙ ap (drop 1) (text_is ∙ ap characters_of split)

pub all_taken : (declared : List (List ℕ)) (letters rest : List Letter) (pieces : List (Piece Raw)) → length rest ≡ 0 → SoFar declared letters rest pieces → CutsInto declared letters pieces
all_taken declared letters [] pieces none so_far = subst (CutsInto declared letters) (append-nil pieces) (so_far [] ended)
all_taken declared letters (l ∷ rest) pieces none so_far = absurd (omega (arith, none))

-- one more letter in front, with whose character no symbol and no flag begins
pub one_more : (declared : List (List ℕ)) (letters : List Letter) (n : ℕ) (pieces pushed : List (Piece Raw)) (other letter : Letter) → n < length letters → letter ≡ get_or letters n other → ((behind : List ℕ) → HasNoPiece declared (character_of letter ∷ behind)) → pushed ≡ pieces ++ alone letter → SoFar declared letters (drop n letters) pieces → SoFar declared letters (drop (n + 1) letters) pushed
one_more declared letters n pieces pushed other letter below is none pushed_is so_far =
    let others = drop (n + 1) letters in
    let split : drop n letters ≡ letter ∷ others =
    drop-cons letters n other below ∙ ap (λ (l : Letter). l ∷ drop (suc n) letters) (sym is) ∙ ap (λ (k : ℕ). letter ∷ drop k letters) (next n) in
    one_taken declared letters (letter ∷ others) (characters_of (letter ∷ others)) letter others pieces pushed refl refl (none (characters_of others)) pushed_is
    (subst (λ (r : List Letter). SoFar declared letters r pieces) split so_far)
  where
    next : (n : ℕ) → suc n ≡ n + 1
    next n = omega arith
