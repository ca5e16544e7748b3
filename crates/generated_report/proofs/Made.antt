-- The generated text is of ASCII, and not long.
use Rattle.std.proofs.Common.{◌≡◌, ◌≤◌, ◌<◌, ◌+◌, ◌-◌, ◌*◌, ◌/◌, ◌%◌, ◌^◌, ◌==◌, ◌||◌, ◌++◌, ℕ, zero, suc, Bool, true, false, cond, List, [], ◌∷◌, length, get_or, codes, refl, arith, lit≤, IsUtf8}
use Rattle.std.specs.List.{list_all}
use Rattle.std.specs.Prelude.{nat_lt}
use Rattle.std.specs.Str.{IsAscii}
use Rattle.std.proofs.lemmas.List.{length-append}
use Rattle.std.proofs.lemmas.List.Sums.{AllPass-from_list_all}
use Rattle.std.proofs.lemmas.List.Elements.{All-weaker}
use Rattle.std.proofs.lemmas.Bool.Decides.{nat_tests}
use Rattle.std.proofs.lemmas.Str.{IsAscii-append, IsUtf8-from_ascii}
use Rattle.std.proofs.lemmas.Str.Ascii.{IsAscii-cons, IsAscii-from_all, IsAscii-nil}
use Rattle.generated_report.specs.Generated.{behind, by_turn, ends_in_o, most_stems, plural, stem, syllable, text, word, words}

-- a list whose bytes pass the test is of ASCII
abbrev is_low : ℕ → Bool
is_low b = nat_lt b 128

below : (b : ℕ) → is_low b ≡ true → b < 128
below b low = grind (arith, nat_tests)

tested : (bytes : List ℕ) → list_all is_low bytes ≡ true → IsAscii bytes
tested bytes low = IsAscii-from_all bytes (All-weaker (λ b. is_low b ≡ true) (λ b. b < 128) below bytes (AllPass-from_list_all is_low bytes low))

either : (t : Bool) (a b : List ℕ) → IsAscii a → IsAscii b → IsAscii (cond t a b)
either true a b h k = h
either false a b h k = k

syllable_ascii : (k : ℕ) → IsAscii (syllable k)
syllable_ascii k =
    let vowel = get_or (codes "aeiou") (k % 50 % 5) 0 in
    IsAscii-cons (get_or (codes "bdfgklmnpr") (k % 50 / 5) 0) (vowel ∷ []) (tested (codes "bdfgklmnpr") refl (k % 50 / 5)) (IsAscii-cons vowel [] (tested (codes "aeiou") refl (k % 50 % 5)) IsAscii-nil)

stem_ascii : (i : ℕ) → IsAscii (stem i)
stem_ascii i =
    IsAscii-append (syllable (i / 2500) ++ syllable (i / 50)) (syllable i)
    (IsAscii-append (syllable (i / 2500)) (syllable (i / 50)) (syllable_ascii (i / 2500)) (syllable_ascii (i / 50))) (syllable_ascii i)

turned_ascii : (turn : ℕ) (bytes : List ℕ) → IsAscii bytes → IsAscii (by_turn turn bytes)
turned_ascii turn bytes ascii =
    either (turn == 1) (plural bytes) (cond (turn == 3) (bytes ++ codes "ss") bytes)
    (IsAscii-append bytes (cond (ends_in_o bytes) (codes "es") (codes "s")) ascii (either (ends_in_o bytes) (codes "es") (codes "s") (tested (codes "es") refl) (tested (codes "s") refl)))
    (either (turn == 3) (bytes ++ codes "ss") bytes (IsAscii-append bytes (codes "ss") ascii (tested (codes "ss") refl)) ascii)

behind_ascii : (stems j : ℕ) → IsAscii (behind stems j)
behind_ascii stems j = either (j % 8 == 7 || j + 1 == 4 * stems) (10 ∷ []) (32 ∷ []) (tested (10 ∷ []) refl) (tested (32 ∷ []) refl)

words_ascii : (stems j : ℕ) → IsAscii (words stems j)
words_ascii stems zero = IsAscii-nil
words_ascii stems (suc j) =
    IsAscii-append (words stems j ++ word stems j) (behind stems j)
    (IsAscii-append (words stems j) (word stems j) (words_ascii stems j) (turned_ascii (j % 4) (stem ((7 * j + 3) % stems)) (stem_ascii ((7 * j + 3) % stems)))) (behind_ascii stems j)

pub text_utf8 : (stems : ℕ) → IsUtf8 (text stems)
text_utf8 stems = IsUtf8-from_ascii (text stems) (words_ascii stems (4 * stems))

-- a word has eight bytes at most, and one stands behind it

within : (t : Bool) (a b : List ℕ) (most : ℕ) → length a ≤ most → length b ≤ most → length (cond t a b) ≤ most
within true a b most h k = h
within false a b most h k = k

turned_short : (turn : ℕ) (bytes : List ℕ) → length (by_turn turn bytes) ≤ length bytes + 2
turned_short turn bytes =
    let ending : length (cond (ends_in_o bytes) (codes "es") (codes "s")) ≤ 2 = within (ends_in_o bytes) (codes "es") (codes "s") 2 (lit≤ tt) (lit≤ tt) in
    let many = length-append bytes (cond (ends_in_o bytes) (codes "es") (codes "s")) in
    let none = length-append bytes (codes "ss") in
    let two : length (codes "ss") ≡ 2 = refl in
    within (turn == 1) (plural bytes) (cond (turn == 3) (bytes ++ codes "ss") bytes) (length bytes + 2) (omega arith)
    (within (turn == 3) (bytes ++ codes "ss") bytes (length bytes + 2) (omega arith) (omega arith))

behind_short : (stems j : ℕ) → length (behind stems j) ≤ 1
behind_short stems j = within (j % 8 == 7 || j + 1 == 4 * stems) (10 ∷ []) (32 ∷ []) 1 (lit≤ tt) (lit≤ tt)

words_short : (stems j : ℕ) → length (words stems j) ≤ 9 * j
words_short stems zero = lit≤ tt
words_short stems (suc j) =
    let so_far = words_short stems j in
    let here = turned_short (j % 4) (stem ((7 * j + 3) % stems)) in
    let six : length (stem ((7 * j + 3) % stems)) ≡ 6 = refl in
    let one = behind_short stems j in
    omega (arith, so_far, here, six, one, length-append (words stems j ++ word stems j) (behind stems j), length-append (words stems j) (word stems j))

pub text_short : (stems : ℕ) → stems ≤ most_stems → length (text stems) < 2 ^ 32 - 1
unfolding most_stems
text_short stems few = omega (arith, few, words_short stems (4 * stems))
