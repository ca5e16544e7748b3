-- The newlines of a text are those of its characters.
use Rattle.std.proofs.Common.{◌≡◌, ◌≢◌, ◌+◌, ◌<◌, ◌≤◌, ◌/◌, ◌%◌, ◌==◌, nat_lt, ℕ, Bool, cond, true, false, List, [], ◌∷◌, ◌++◌, take, drop, chars, refl, sym, ap, ◌∙◌, arith}
use Rattle.std.specs.Str.{encode_utf8_all, IsUtf8}
use lib.Utf8.{encode}
use Rattle.std.proofs.lemmas.Bool.{ltb-false}
use Rattle.std.proofs.lemmas.Bool.Decides.{Decides-eqb}
use Rattle.std.proofs.lemmas.List.{take-append-drop}
use Rattle.std.proofs.lemmas.List.Sums.{sum_by-append, sum_by-cons}
use Rattle.std.proofs.lemmas.Str.{encodes-chars}
use Rattle.regex_tokens.specs.Cuts.{newlines}

abbrev counted : ℕ → ℕ
counted b = cond (b == 10) 1 0

newlines_cons : (b : ℕ) (bs : List ℕ) → newlines (b ∷ bs) ≡ counted b + newlines bs
newlines_cons b bs = sum_by-cons counted b bs

is_other : (b : ℕ) → b ≢ 10 → (b == 10) ≡ false
is_other b other = by (b == 10) refl
  where
    by : (test : Bool) → (b == 10) ≡ test → test ≡ false
    by true is = absurd (other ((Decides-eqb b 10).0 is))
    by false is = refl

not_counted : (b : ℕ) → 10 < b → counted b ≡ 0
not_counted b high = ap (λ (t : Bool). cond t 1 0) (is_other b (λ e. absurd (omega (arith, e, high))))

pub other_first : (b : ℕ) (bs rest : List ℕ) → 10 < b → newlines (bs ++ rest) ≡ newlines rest → newlines (b ∷ bs ++ rest) ≡ newlines rest
other_first b bs rest high same = omega (arith, newlines_cons b (bs ++ rest), not_counted b high, same)

one_last : (x : ℕ) (rest : List ℕ) → newlines ((128 + x % 64) ∷ [] ++ rest) ≡ newlines rest
one_last x rest = other_first (128 + x % 64) [] rest (omega arith) refl

two_last : (y x : ℕ) (rest : List ℕ) → newlines ((128 + y % 64) ∷ (128 + x % 64) ∷ [] ++ rest) ≡ newlines rest
two_last y x rest = other_first (128 + y % 64) ((128 + x % 64) ∷ []) rest (omega arith) (one_last x rest)

encoded : (c : ℕ) (rest : List ℕ) → newlines (encode c ++ rest) ≡ newlines (c ∷ rest)
unfolding encode
encoded c rest = by (nat_lt c 128) refl (nat_lt c 2048) (nat_lt c 65536)
  where
    high : nat_lt c 128 ≡ false → newlines rest ≡ newlines (c ∷ rest)
    high is = let above : 128 ≤ c = ltb-false c 128 is in sym (other_first c [] rest (omega (arith, above)) refl)

    by : (one : Bool) → nat_lt c 128 ≡ one → (two three : Bool) → newlines (cond one (c ∷ []) (cond two ((192 + c / 64) ∷ (128 + c % 64) ∷ []) (cond three ((224 + c / 4096) ∷ (128 + (c / 64) % 64) ∷ (128 + c % 64) ∷ []) ((240 + c / 262144) ∷ (128 + (c / 4096) % 64) ∷ (128 + (c / 64) % 64) ∷ (128 + c % 64) ∷ []))) ++ rest) ≡ newlines (c ∷ rest)
    by true is two three = refl
    by false is true three = other_first (192 + c / 64) ((128 + c % 64) ∷ []) rest (omega arith) (one_last c rest) ∙ high is
    by false is false true = other_first (224 + c / 4096) ((128 + (c / 64) % 64) ∷ (128 + c % 64) ∷ []) rest (omega arith) (two_last (c / 64) c rest) ∙ high is
    by false is false false =
        other_first (240 + c / 262144) ((128 + (c / 4096) % 64) ∷ (128 + (c / 64) % 64) ∷ (128 + c % 64) ∷ []) rest (omega arith)
        (other_first (128 + (c / 4096) % 64) ((128 + (c / 64) % 64) ∷ (128 + c % 64) ∷ []) rest (omega arith) (two_last (c / 64) c rest)) ∙ high is

pub newlines_encoded : (cs : List ℕ) → newlines (encode_utf8_all cs) ≡ newlines cs
newlines_encoded [] = refl
newlines_encoded (c ∷ cs) = encoded c (encode_utf8_all cs) ∙ newlines_cons c (encode_utf8_all cs) ∙ ap (λ (n : ℕ). counted c + n) (newlines_encoded cs) ∙ sym (newlines_cons c cs)

pub newlines_chars : (text : List ℕ) → IsUtf8 text → newlines (chars text) ≡ newlines text
newlines_chars text is = sym (newlines_encoded (chars text)) ∙ ap newlines (encodes-chars text is)

pub newlines_front : (n : ℕ) (text : List ℕ) → newlines (take n text) ≤ newlines text
newlines_front n text = let parts = sum_by-append counted (take n text) (drop n text) in let whole = ap newlines (take-append-drop n text) in omega (arith, parts, whole)
