-- Lines, words and the texts of words of a text in UTF-8 are in UTF-8.
use Rattle.std.proofs.Common.{◌≡◌, ◌==◌, ◌+◌, ◌<◌, ℕ, zero, suc, Bool, true, false, not, cond, ◌&&◌, List, [], ◌∷◌, ◌++◌, length, map, get_or, Vec, Global, refl, sym, ap, subst, append_assoc, append-nil, length-append, arith}
use Rattle.std.specs.Str.{IsUtf8}
use Rattle.std.proofs.Math.Seq.{take-append_seam, drop-append-add, get_or-append_seam}
use Rattle.std.proofs.lemmas.Bool.Decides.{nat_tests}
use Rattle.std.proofs.lemmas.List.Elements.{All-nil, All-cons, All-head, All-tail, All-append}
use Rattle.std.proofs.lemmas.Str.{IsUtf8-append, IsUtf8-take, IsUtf8-drop, IsCharBoundary-before_ascii, IsCharBoundary-after_ascii}
use Rattle.project_manifest.specs.Manifests.{Saying, some_of, lines_from, lines_of, is_blank, words_from, words_of, is_epsilon, saying, sayings, statements_in, taken_from, text_of}
use Rattle.project_manifest.specs.Sayings.{as_written, AreTexts, HaveTexts, saying_of}
use Rattle.project_manifest.specs.declared.said.Said.{Said}

-- what stands before and behind a byte of ASCII
around_ascii : (xs ys : List ℕ) (b : ℕ) → b < 128 → IsUtf8 (xs ++ b ∷ ys) → IsUtf8 xs × IsUtf8 ys
around_ascii xs ys b low utf8 =
    let inside : length xs < length (xs ++ b ∷ ys) = omega (arith, length-append xs (b ∷ ys)) in
    let here : get_or (xs ++ b ∷ ys) (length xs) 0 < 128 = omega (arith, get_or-append_seam xs b ys 0) in (
      subst IsUtf8 (take-append_seam xs (b ∷ ys)) (IsUtf8-take (xs ++ b ∷ ys) (length xs) utf8 (IsCharBoundary-before_ascii (xs ++ b ∷ ys) (length xs) inside here)),
      subst IsUtf8 (drop-append-add xs (b ∷ ys) 1) (IsUtf8-drop (xs ++ b ∷ ys) (length xs + 1) utf8 (IsCharBoundary-after_ascii (xs ++ b ∷ ys) (length xs) utf8 inside here)),
    )

goes_on : (xs ys : List ℕ) (b : ℕ) → IsUtf8 (xs ++ b ∷ ys) → IsUtf8 ((xs ++ b ∷ []) ++ ys)
goes_on xs ys b utf8 = subst IsUtf8 (sym (append_assoc xs (b ∷ []) ys)) utf8

newline_low : (b : ℕ) → (b == 10) ≡ true → b < 128
newline_low b is = grind (arith, nat_tests)

blank_low : (taking : Bool) (b : ℕ) → (not taking && is_blank b) ≡ true → b < 128
blank_low true b is = absurd cc
blank_low false b is = grind (arith, nat_tests)

escape_low : (taking : Bool) (b : ℕ) → (not taking && b == 37) ≡ true → b < 128
escape_low true b is = absurd cc
escape_low false b is = grind (arith, nat_tests)

some_text : (line : List ℕ) → IsUtf8 line → AreTexts (some_of line)
some_text [] utf8 = All-nil IsUtf8
some_text (b ∷ bs) utf8 = All-cons IsUtf8 (b ∷ bs) [] utf8 (All-nil IsUtf8)

lines_texts : (line bytes : List ℕ) → IsUtf8 (line ++ bytes) → AreTexts (lines_from line bytes)
lines_texts line [] utf8 = some_text line (subst IsUtf8 (append-nil line) utf8)
lines_texts line (b ∷ bs) utf8 = by (b == 10) refl (lines_texts [] bs) (lines_texts (line ++ b ∷ []) bs (goes_on line bs b utf8))
  where
    by : (ends : Bool) → (b == 10) ≡ ends → (IsUtf8 bs → AreTexts (lines_from [] bs)) → AreTexts (lines_from (line ++ b ∷ []) bs) → AreTexts (cond ends (line ∷ lines_from [] bs) (lines_from (line ++ b ∷ []) bs))
    by true is behind more = let around = around_ascii line bs b (newline_low b is) utf8 in All-cons IsUtf8 line (lines_from [] bs) around.0 (behind around.1)
    by false is behind more = more

words_texts : (word : List ℕ) (taking : Bool) (bytes : List ℕ) → IsUtf8 (word ++ bytes) → AreTexts (words_from word taking bytes)
words_texts word taking [] utf8 = some_text word (subst IsUtf8 (append-nil word) utf8)
words_texts word taking (b ∷ bs) utf8 = by (not taking && is_blank b) refl (words_texts [] false bs) (words_texts (word ++ b ∷ []) (not taking && b == 37) bs (goes_on word bs b utf8))
  where
    more_words : List (List ℕ)
    more_words = words_from (word ++ b ∷ []) (not taking && b == 37) bs

    by : (ends : Bool) → (not taking && is_blank b) ≡ ends → (IsUtf8 bs → AreTexts (words_from [] false bs)) → AreTexts more_words → AreTexts (cond ends (some_of word ++ words_from [] false bs) more_words)
    by true is behind more =
        let around = around_ascii word bs b (blank_low taking b is) utf8 in
        All-append IsUtf8 (some_of word) (words_from [] false bs) (some_text word around.0) (behind around.1)
    by false is behind more = more

sayings_texts : (n : ℕ) (lines : List (List ℕ)) → AreTexts lines → HaveTexts (sayings n lines)
sayings_texts n [] utf8 = All-nil (λ (s : Saying). AreTexts s.words)
sayings_texts n (line ∷ lines) utf8 = by (is_epsilon (words_of line)) (sayings_texts (n + 1) lines (All-tail IsUtf8 line lines utf8))
  where
    by : (epsilon : Bool) → HaveTexts (sayings (n + 1) lines) → HaveTexts (cond epsilon (sayings (n + 1) lines) (saying n (words_of line) ∷ sayings (n + 1) lines))
    by true more = more
    by false more = All-cons (λ (s : Saying). AreTexts s.words) (saying n (words_of line)) (sayings (n + 1) lines) (words_texts [] false line (All-head IsUtf8 line lines utf8)) more

pub statements_texts : (text : List ℕ) → IsUtf8 text → HaveTexts (statements_in text)
statements_texts text utf8 = sayings_texts 1 (lines_of text) (lines_texts [] text utf8)

-- the text of a word
taken_text : (front : List ℕ) (taking : Bool) (bytes : List ℕ) → IsUtf8 (front ++ bytes) → IsUtf8 (front ++ taken_from taking bytes)
taken_text front taking [] utf8 = utf8
taken_text front taking (b ∷ bs) utf8 = by (not taking && b == 37) refl (taken_text front true bs) (taken_text (front ++ b ∷ []) false bs (goes_on front bs b utf8))
  where
    by : (takes : Bool) → (not taking && b == 37) ≡ takes → (IsUtf8 (front ++ bs) → IsUtf8 (front ++ taken_from true bs)) → IsUtf8 ((front ++ b ∷ []) ++ taken_from false bs) → IsUtf8 (front ++ cond takes (taken_from true bs) (b ∷ taken_from false bs))
    by true is behind more = let around = around_ascii front bs b (escape_low taking b is) utf8 in behind (IsUtf8-append front bs around.0 around.1)
    by false is behind more = subst IsUtf8 (append_assoc front (b ∷ []) (taken_from false bs)) more

pub word_text : (word : List ℕ) → IsUtf8 word → IsUtf8 (text_of word)
word_text word utf8 = taken_text [] false word utf8

-- one of the words, as they are read
pub word_at : (words : List (Vec ℕ Global)) (i : ℕ) (x : Vec ℕ Global) → i < length words → x ≡ get_or words i x → AreTexts (as_written words) → IsUtf8 x.items
word_at [] i x below is utf8 = absurd (omega arith)
word_at (w ∷ words) zero x below is utf8 = subst IsUtf8 (sym (ap (λ (v : Vec ℕ Global). v.items) is)) (All-head IsUtf8 w.items (as_written words) utf8)
word_at (w ∷ words) (suc i) x below is utf8 = word_at words i x (omega arith) is (All-tail IsUtf8 w.items (as_written words) utf8)

-- the words behind the first one
pub other_words : (words : List (List ℕ)) (first : List ℕ) (others : List (List ℕ)) → words ≡ first ∷ others → AreTexts words → AreTexts others
other_words words first others split utf8 = All-tail IsUtf8 first others (subst AreTexts split utf8)

-- one of the lines that say something
pub texts_at : (said : List Said) (i : ℕ) (x : Said) → i < length said → x ≡ get_or said i x → HaveTexts (map saying_of said) → AreTexts (saying_of x).words
texts_at [] i x below is texts = absurd (omega arith)
texts_at (s ∷ said) zero x below is texts = subst (λ (z : Said). AreTexts (saying_of z).words) (sym is) (All-head (λ (z : Saying). AreTexts z.words) (saying_of s) (map saying_of said) texts)
texts_at (s ∷ said) (suc i) x below is texts = texts_at said i x (omega arith) is (All-tail (λ (z : Saying). AreTexts z.words) (saying_of s) (map saying_of said) texts)
