-- What stands before a byte that marks, and what behind it.
use Rattle.std.proofs.Common.{◌≡◌, ◌≢◌, ◌<◌, ℕ, List, [], ◌∷◌, ◌++◌, length, Option, Some, None, MatchOption, Bor, slice_index_or, refl, ap, ◌∙◌}
use Rattle.std.proofs.lemmas.List.Elements.{All-head, All-tail, All-from_get_or}
use Rattle.std.proofs.lemmas.Str.Pattern.{IsSplitOnceResult, split_parts}
use Rattle.flag_texts.specs.Reading.{HasNo}

module _ (mark : ℕ) where
  -- the mark is the first one
  pub one_split : (a b x y : List ℕ) → HasNo mark a → HasNo mark b → a ++ mark ∷ x ≡ b ++ mark ∷ y → (a ≡ b) × (x ≡ y)
  one_split [] [] x y p q e = (refl, let same : x ≡ y = cc in same)
  one_split [] (c ∷ b) x y p q e = let clash : c ≡ mark = cc in absurd (All-head (λ n. n ≢ mark) c b q clash)
  one_split (c ∷ a) [] x y p q e = let clash : c ≡ mark = cc in absurd (All-head (λ n. n ≢ mark) c a p clash)
  one_split (c ∷ a) (d ∷ b) x y p q e =
      let first : c ≡ d = cc in
      let others : a ++ mark ∷ x ≡ b ++ mark ∷ y = cc in
      let rest = one_split a b x y (All-tail (λ n. n ≢ mark) c a p) (All-tail (λ n. n ≢ mark) d b q) others in
      ((ap (λ (n : ℕ). n ∷ a) first ∙ ap (λ (z : List ℕ). d ∷ z) rest.0), rest.1)

  pub has_mark : (a x : List ℕ) → HasNo mark (a ++ mark ∷ x) → ⊥
  has_mark [] x p = All-head (λ n. n ≢ mark) mark x p refl
  has_mark (c ∷ a) x p = has_mark a x (All-tail (λ n. n ≢ mark) c (a ++ mark ∷ x) p)

  -- what `split_once` says, in these words
  pub split_says : mark < 128 → (text : List ℕ) (r : Option (Bor (List ℕ) × Bor (List ℕ))) → IsSplitOnceResult mark text r → MatchOption r (HasNo mark text) (λ parts. HasNo mark parts.0.now × (text ≡ parts.0.now ++ mark ∷ parts.1.now))
  split_says small text r h = by r (split_parts mark text r h small)
    where
      by : (r : Option (Bor (List ℕ) × Bor (List ℕ))) → MatchOption r ((i : ℕ) → i < length text → slice_index_or text i 0 ≢ mark) (λ x. (text ≡ x.0.now ++ (mark ∷ x.1.now)) × ((i : ℕ) → i < length x.0.now → slice_index_or x.0.now i 0 ≢ mark))
          → MatchOption r (HasNo mark text) (λ parts. HasNo mark parts.0.now × (text ≡ parts.0.now ++ mark ∷ parts.1.now))
      by None p = All-from_get_or (λ n. n ≢ mark) text 0 p
      by (Some parts) p = (All-from_get_or (λ n. n ≢ mark) parts.0.now 0 p.1, p.0)
