-- The end of an expression, character by character.
use Rattle.std.proofs.Common.{◌≡◌, ◌+◌, ◌<◌, ◌≤◌, min, ℕ, zero, suc, Bool, true, false, cond, List, [], ◌∷◌, length, take, drop, get_or, refl, sym, ap, ◌∙◌, inl, inr, arith}
use Rattle.std.proofs.lemmas.Bool.{cases_lt}
use Rattle.lexc_forms.proofs.Encoding.{left_behind, none_left}
use Rattle.lexc_tokens.specs.Tokens.{behind, is_end, inner_len}
use Rattle.lexc_tokens.specs.declared.expressions.Inside.{Inside}

end_here : (inside : Inside) (c : ℕ) (cs : List ℕ) → is_end inside c ≡ true → inner_len inside (c ∷ cs) ≡ 0
end_here inside c cs is = ap (λ (b : Bool). cond b 0 (1 + inner_len (behind inside c) cs)) is

end_later : (inside : Inside) (c : ℕ) (cs : List ℕ) → is_end inside c ≡ false → inner_len inside (c ∷ cs) ≡ 1 + inner_len (behind inside c) cs
end_later inside c cs is = ap (λ (b : Bool). cond b 0 (1 + inner_len (behind inside c) cs)) is

module _ (text : List ℕ) (i whole : ℕ) (inside : Inside) (so_far : i + inner_len inside (drop i text) ≡ whole) where
  module _ (c : ℕ) (below : i < length text) (here : c ≡ get_or text i c) where
    pub inner_ends : is_end inside c ≡ true → i ≡ whole
    inner_ends is = omega (arith, so_far, ap (inner_len inside) (left_behind text i c below here) ∙ end_here inside c (drop (i + 1) text) is)

    pub inner_more : (next : Inside) → is_end inside c ≡ false → next ≡ behind inside c → (i + 1) + inner_len next (drop (i + 1) text) ≡ whole
    inner_more next is next_is = omega (arith, so_far, ap (inner_len inside) (left_behind text i c below here) ∙ end_later inside c (drop (i + 1) text) is, ap (λ (s : Inside). inner_len s (drop (i + 1) text)) next_is)

  pub inner_is_all : (n : ℕ) → n ≡ length text → i ≤ length text → length text ≤ i → n ≡ whole
  inner_is_all n is low past = omega (arith, so_far, ap (inner_len inside) (none_left text i past))

-- a front that is cut at the end of the text
pub drop-min : (n : ℕ) (xs : List ℕ) → drop (min (length xs) n) xs ≡ drop n xs
drop-min n xs = elim (cases_lt n (length xs)) as (λ _. drop (min (length xs) n) xs ≡ drop n xs) [
  | inl below ↦ ap (λ (k : ℕ). drop k xs) (omega arith)
  | inr above ↦ none_left xs (min (length xs) n) (omega arith) ∙ sym (none_left xs n (omega arith))
]
