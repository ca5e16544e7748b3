-- The text of characters, one by one.
use Rattle.std.proofs.Common.{◌≡◌, ◌+◌, ◌<◌, ◌≤◌, ℕ, zero, suc, List, [], ◌∷◌, ◌++◌, length, drop, get_or, refl, sym, ap, ◌∙◌, arith, append_assoc, append-nil}
use lib.Seq.{drop-cons}
use Rattle.std.specs.Char.{encode_utf8}
use Rattle.std.specs.Str.{encode_utf8_all}

-- what is left of a list is the element at the place, and what is behind it
pub left_behind : (xs : List ℕ) (i x : ℕ) → i < length xs → x ≡ get_or xs i x → drop i xs ≡ x ∷ drop (i + 1) xs
left_behind xs i x below is = drop-cons xs i x below ∙ ap (λ (y : ℕ). y ∷ drop (suc i) xs) (sym is) ∙ ap (λ (n : ℕ). x ∷ drop n xs) (one_more i)
  where
    one_more : (i : ℕ) → suc i ≡ i + 1
    one_more i = omega arith

pub none_left : (xs : List ℕ) (i : ℕ) → length xs ≤ i → drop i xs ≡ []
none_left [] zero h = refl
none_left [] (suc i) h = refl
none_left (x ∷ xs) zero h = absurd (omega arith)
none_left (x ∷ xs) (suc i) h = none_left xs i (omega arith)

module _ (characters : List ℕ) (i : ℕ) (old whole : List ℕ) (so_far : old ++ encode_utf8_all (drop i characters) ≡ whole) where
  pub encode_more : (new : List ℕ) (c : ℕ) → i < length characters → c ≡ get_or characters i c → new ≡ old ++ encode_utf8 c → new ++ encode_utf8_all (drop (i + 1) characters) ≡ whole
  encode_more new c below here is =
      ap (λ (z : List ℕ). z ++ encode_utf8_all (drop (i + 1) characters)) is ∙ append_assoc old (encode_utf8 c) (encode_utf8_all (drop (i + 1) characters))
      ∙ ap (λ (z : List ℕ). old ++ encode_utf8_all z) (sym (left_behind characters i c below here)) ∙ so_far

  pub encode_done : length characters ≤ i → old ≡ whole
  encode_done past = sym (append-nil old) ∙ ap (λ (z : List ℕ). old ++ encode_utf8_all z) (sym (none_left characters i past)) ∙ so_far
