-- Two lists that are compared item by item, each item as something that both can be.
use Rattle.std.proofs.Common.{◌≡◌, ◌≢◌, ◌↔◌, ◌+◌, ◌<◌, ◌≤◌, ℕ, List, [], ◌∷◌, length, drop, get_or, map, refl, sym, ap, ◌∙◌, arith}
use Rattle.std.proofs.lemmas.List.{drop_all, length-map}
use Rattle.word_relations.proofs.Behind.{left_behind}

-- they are the same exactly where they are so from a place on
abbrev pub Goes : {X Y Z : Type 0} → (X → Z) → (Y → Z) → List X → List Y → ℕ → Type 0
Goes g h xs ys i = (map g (drop i xs) ≡ map h (drop i ys)) ↔ (map g xs ≡ map h ys)

module _ {X Y Z : Type 0} (g : X → Z) (h : Y → Z) (xs : List X) (ys : List Y) where
  pub goes_start : Goes g h xs ys 0
  goes_start = (λ same. same, λ same. same)

  module _ (i : ℕ) (x : X) (y : Y) (x_within : i < length xs) (y_within : i < length ys) (x_is : x ≡ get_or xs i x) (y_is : y ≡ get_or ys i y) where
    left_x : map g (drop i xs) ≡ g x ∷ map g (drop (i + 1) xs)
    left_x = ap (map g) (left_behind xs i x x_within x_is)

    left_y : map h (drop i ys) ≡ h y ∷ map h (drop (i + 1) ys)
    left_y = ap (map h) (left_behind ys i y y_within y_is)

    -- these items are the same
    pub goes_on : g x ≡ h y → Goes g h xs ys i → Goes g h xs ys (i + 1)
    goes_on same so_far =
        let xl = left_x in let yl = left_y in (
          λ rest. let both : map g (drop i xs) ≡ map h (drop i ys) = cc in so_far.0 both,
          λ whole. let both : g x ∷ map g (drop (i + 1) xs) ≡ h y ∷ map h (drop (i + 1) ys) = sym xl ∙ so_far.1 whole ∙ yl in cc,
        )

    -- they differ
    pub goes_wrong : (g x ≡ h y → ⊥) → Goes g h xs ys i → map g xs ≡ map h ys → ⊥
    goes_wrong differ so_far whole =
        let both : g x ∷ map g (drop (i + 1) xs) ≡ h y ∷ map h (drop (i + 1) ys) = sym left_x ∙ so_far.1 whole ∙ left_y in
        differ cc

  -- nothing is left
  pub goes_to_end : (i : ℕ) → length xs ≤ i → length ys ≤ i → Goes g h xs ys i → map g xs ≡ map h ys
  goes_to_end i xs_end ys_end so_far = so_far.0 (ap (map g) (drop_all i xs xs_end) ∙ sym (ap (map h) (drop_all i ys ys_end)))

  -- lists of the same items are as long
  pub as_long : map g xs ≡ map h ys → length xs ≡ length ys
  as_long same = sym (length-map xs g) ∙ ap length same ∙ length-map ys h

-- items as they are
pub map_itself : {X : Type 0} (xs : List X) → map (λ x. x) xs ≡ xs
map_itself [] = refl
map_itself {X} (x ∷ xs) = ap (λ (z : List X). x ∷ z) (map_itself xs)
