-- Lists in which each element stands once.
use Rattle.std.proofs.Common.{◌≡◌, ◌<◌, List, [], ◌∷◌, ◌++◌, map, ap, ◌∙◌, inl, inr, arith}
use Rattle.std.specs.List.{Contains}
use Rattle.std.specs.Option.{option_map}
use Rattle.std.proofs.lemmas.Option.{slice_get-map, slice_get_within}
use Rattle.word_relations.specs.Words.{IsDistinct}
use Rattle.word_relations.proofs.Places.{Contains-from_slice_get, slice_get-append_cases}

pub IsDistinct-one : {X : Type 0} (x : X) → IsDistinct (x ∷ [])
IsDistinct-one x i j y at other =
    let first : i < 1 = slice_get_within (x ∷ []) i y at in
    let second : j < 1 = slice_get_within (x ∷ []) j y other in
    omega arith

pub IsDistinct-append : {X : Type 0} (xs ys : List X) → IsDistinct xs → IsDistinct ys → ((x : X) → Contains xs x → Contains ys x → ⊥) → IsDistinct (xs ++ ys)
IsDistinct-append xs ys first second apart i j x at other =
    elim (slice_get-append_cases xs ys i x at) [
      | inl a ↦ elim (slice_get-append_cases xs ys j x other) [
        | inl b ↦ first i j x a b
        | inr b ↦ absurd (apart x (Contains-from_slice_get xs i x a) (Contains-from_slice_get ys b.0 x b.2))
      ]
      | inr a ↦ elim (slice_get-append_cases xs ys j x other) [
        | inl b ↦ absurd (apart x (Contains-from_slice_get xs j x b) (Contains-from_slice_get ys a.0 x a.2))
        | inr b ↦ let same : a.0 ≡ b.0 = second a.0 b.0 x a.2 b.2 in omega (arith, a.1, b.1)
      ]
    ]

-- elements are distinct where what a function makes of them is
pub IsDistinct-before : {X Y : Type 0} (f : X → Y) (xs : List X) → IsDistinct (map f xs) → IsDistinct xs
IsDistinct-before f xs apart i j x at other =
    apart i j (f x) (slice_get-map f xs i ∙ ap (option_map f) at) (slice_get-map f xs j ∙ ap (option_map f) other)
