-- How many pairs are counted once by other tests, and in other words.
use Rattle.std.proofs.Common.{◌≡◌, ◌+◌, ℕ, Bool, cond, List, [], ◌∷◌, ◌++◌, Option, None, Some, All, map, refl}
use Rattle.std.specs.Prelude.{◌&&◌, ◌||◌}
use Rattle.std.specs.List.{flat_map, list_any}
use Rattle.std.specs.Option.{option_map}
use Rattle.std.specs.Str.{bytes_eq}
use Rattle.std.proofs.lemmas.List.Elements.{All-nil, All-cons, All-head, All-tail, All-append}
use Rattle.project_meaning.specs.Grammars.{Letter as TextLetter, count_once as count_texts, is_same_letter as is_same_text_letter, is_same_side as is_same_text_side, written_pair as written_texts}
use Rattle.project_meaning.specs.Leaves.{Leaf}
use Rattle.project_meaning.specs.Lexicons.{text_in}
use Rattle.project_meaning.specs.Trees.{Side, nothing, anything, one, member, Pair}
use Rattle.grammar_pairs.specs.Mapped.{mapped_pair, mapped_side}
use Rattle.name_resolution.specs.Leaves.{leaves_in_pair, leaves_in_side}
use Rattle.grammar_weights.specs.Weights.{Letter, count_once, is_same_letter, is_same_side, written_pair}

counted_alike : (a b : Bool) (n m : ℕ) → a ≡ b → n ≡ m → cond a n (n + 1) ≡ cond b m (m + 1)
counted_alike a b n m e d = λ i. cond (e i) (d i) (d i + 1)

-- with other leaves
module _ {A B : Type 0} (f : A → B) where
  abbrev pub letter_by : Letter A → Letter B
  letter_by x = record { up = option_map f x.up; low = option_map f x.low }

  sides_written : (up low : Side A) → written_pair (record { up = mapped_side f up; low = mapped_side f low }) ≡ map letter_by (written_pair (record { up = up; low = low }))
  sides_written nothing nothing = refl
  sides_written nothing anything = refl
  sides_written nothing (one l) = refl
  sides_written nothing (member n) = refl
  sides_written anything low = refl
  sides_written (one l) nothing = refl
  sides_written (one l) anything = refl
  sides_written (one l) (one m) = refl
  sides_written (one l) (member n) = refl
  sides_written (member n) low = refl

  pub written_mapped : (p : Pair A) → written_pair (mapped_pair f p) ≡ map letter_by (written_pair p)
  written_mapped p = sides_written p.up p.low

  module _ (same : B → B → Bool) where
    abbrev pub pulled : A → A → Bool
    pulled a b = same (f a) (f b)

    side_pulled : (a b : Option A) → is_same_side same (option_map f a) (option_map f b) ≡ is_same_side pulled a b
    side_pulled None None = refl
    side_pulled None (Some b) = refl
    side_pulled (Some a) None = refl
    side_pulled (Some a) (Some b) = refl

    any_pulled : (x : Letter A) (xs : List (Letter A)) → list_any (is_same_letter same (letter_by x)) (map letter_by xs) ≡ list_any (is_same_letter pulled x) xs
    any_pulled x [] = refl
    any_pulled x (y ∷ xs) =
        let up = side_pulled x.up y.up in
        let low = side_pulled x.low y.low in
        let rest = any_pulled x xs in
        λ i. (up i && low i) || rest i

    pub count_pulled : (xs : List (Letter A)) → count_once same (map letter_by xs) ≡ count_once pulled xs
    count_pulled [] = refl
    count_pulled (x ∷ xs) =
        counted_alike (list_any (is_same_letter same (letter_by x)) (map letter_by xs)) (list_any (is_same_letter pulled x) xs) (count_once same (map letter_by xs)) (count_once pulled xs) (any_pulled x xs) (count_pulled xs)

-- by texts
abbrev pub same_text : Leaf → Leaf → Bool
same_text a b = bytes_eq (text_in a) (text_in b)

abbrev pub text_letter : Letter Leaf → TextLetter
text_letter x = record { up = option_map text_in x.up; low = option_map text_in x.low }

texts_written : (up low : Side Leaf) → written_texts (record { up = up; low = low }) ≡ map text_letter (written_pair (record { up = up; low = low }))
texts_written nothing nothing = refl
texts_written nothing anything = refl
texts_written nothing (one l) = refl
texts_written nothing (member n) = refl
texts_written anything low = refl
texts_written (one l) nothing = refl
texts_written (one l) anything = refl
texts_written (one l) (one m) = refl
texts_written (one l) (member n) = refl
texts_written (member n) low = refl

pub written_meant : (p : Pair Leaf) → written_texts p ≡ map text_letter (written_pair p)
written_meant p = texts_written p.up p.low

side_meant : (a b : Option Leaf) → is_same_text_side (option_map text_in a) (option_map text_in b) ≡ is_same_side same_text a b
side_meant None None = refl
side_meant None (Some b) = refl
side_meant (Some a) None = refl
side_meant (Some a) (Some b) = refl

any_meant : (x : Letter Leaf) (xs : List (Letter Leaf)) → list_any (is_same_text_letter (text_letter x)) (map text_letter xs) ≡ list_any (is_same_letter same_text x) xs
any_meant x [] = refl
any_meant x (y ∷ xs) =
    let up = side_meant x.up y.up in
    let low = side_meant x.low y.low in
    let rest = any_meant x xs in
    λ i. (up i && low i) || rest i

pub count_meant : (xs : List (Letter Leaf)) → count_texts (map text_letter xs) ≡ count_once same_text xs
count_meant [] = refl
count_meant (x ∷ xs) =
    counted_alike (list_any (is_same_text_letter (text_letter x)) (map text_letter xs)) (list_any (is_same_letter same_text x) xs) (count_texts (map text_letter xs)) (count_once same_text xs) (any_meant x xs) (count_meant xs)

-- by tests that agree on leaves with a property
pub All-front : {X : Type 0} (P : X → Type 0) (xs ys : List X) → All P (xs ++ ys) → All P xs
All-front P [] ys h = All-nil P
All-front P (x ∷ xs) ys h = All-cons P x xs (All-head P x (xs ++ ys) h) (All-front P xs ys (All-tail P x (xs ++ ys) h))

pub All-back : {X : Type 0} (P : X → Type 0) (xs ys : List X) → All P (xs ++ ys) → All P ys
All-back P [] ys h = h
All-back P (x ∷ xs) ys h = All-back P xs ys (All-tail P x (xs ++ ys) h)

module _ {A : Type 0} (P : A → Type 0) where
  abbrev pub SideHas : Option A → Type 0
  SideHas None = Unit {0}
  SideHas (Some a) = P a

  abbrev pub LetterHas : Letter A → Type 0
  LetterHas x = SideHas x.up × SideHas x.low

  alone : (up low : Option A) → SideHas up → SideHas low → All LetterHas (record { up = up; low = low } ∷ [])
  alone up low h k = All-cons LetterHas (record { up = up; low = low }) [] (h, k) (All-nil LetterHas)

  sides_have : (up low : Side A) → All P (leaves_in_side up ++ leaves_in_side low) → All LetterHas (written_pair (record { up = up; low = low }))
  sides_have nothing nothing h = alone None None tt tt
  sides_have nothing anything h = All-nil LetterHas
  sides_have nothing (one l) h = alone None (Some l) tt (All-head P l [] h)
  sides_have nothing (member n) h = All-nil LetterHas
  sides_have anything low h = All-nil LetterHas
  sides_have (one l) nothing h = alone (Some l) None (All-head P l [] h) tt
  sides_have (one l) anything h = All-nil LetterHas
  sides_have (one l) (one m) h = alone (Some l) (Some m) (All-head P l (m ∷ []) h) (All-head P m [] (All-tail P l (m ∷ []) h))
  sides_have (one l) (member n) h = All-nil LetterHas
  sides_have (member n) low h = All-nil LetterHas

  pub pairs_have : (ps : List (Pair A)) → All P (flat_map leaves_in_pair ps) → All LetterHas (flat_map written_pair ps)
  pairs_have [] h = All-nil LetterHas
  pairs_have (p ∷ ps) h =
      All-append LetterHas (written_pair p) (flat_map written_pair ps) (sides_have p.up p.low (All-front P (leaves_in_pair p) (flat_map leaves_in_pair ps) h))
      (pairs_have ps (All-back P (leaves_in_pair p) (flat_map leaves_in_pair ps) h))

  module _ (same other : A → A → Bool) (agree : (a b : A) → P a → P b → same a b ≡ other a b) where
    side_alike : (a b : Option A) → SideHas a → SideHas b → is_same_side same a b ≡ is_same_side other a b
    side_alike None None h k = refl
    side_alike None (Some b) h k = refl
    side_alike (Some a) None h k = refl
    side_alike (Some a) (Some b) h k = agree a b h k

    any_alike : (x : Letter A) → LetterHas x → (xs : List (Letter A)) → All LetterHas xs → list_any (is_same_letter same x) xs ≡ list_any (is_same_letter other x) xs
    any_alike x h [] all = refl
    any_alike x h (y ∷ xs) all =
        let k = All-head LetterHas y xs all in
        let up = side_alike x.up y.up h.0 k.0 in
        let low = side_alike x.low y.low h.1 k.1 in
        let rest = any_alike x h xs (All-tail LetterHas y xs all) in
        λ i. (up i && low i) || rest i

    pub count_alike : (xs : List (Letter A)) → All LetterHas xs → count_once same xs ≡ count_once other xs
    count_alike [] all = refl
    count_alike (x ∷ xs) all =
        let rest = All-tail LetterHas x xs all in
        counted_alike (list_any (is_same_letter same x) xs) (list_any (is_same_letter other x) xs) (count_once same xs) (count_once other xs) (any_alike x (All-head LetterHas x xs all) xs rest) (count_alike xs rest)
