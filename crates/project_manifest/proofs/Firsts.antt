-- The first of items that has something: where none in front has anything, and carried to items of another list.
use Rattle.std.proofs.Common.{◌≡◌, ◌↔◌, List, [], ◌∷◌, ◌++◌, map, sym, ap, ◌∙◌, inl, inr, append_assoc, append-nil}
use Rattle.std.specs.List.{Contains}
use Rattle.word_relations.proofs.Members.{Contains-head, Contains-tail}
use Rattle.project_manifest.specs.Rows.{First, HaveNone, At, places_from}

module _ {A F : Type 0} (Has : A → F → Type 0) where
  pub none_more : (x : A) (xs : List A) → ((found : F) → Has x found → ⊥) → HaveNone Has xs → HaveNone Has (x ∷ xs)
  none_more x xs none more found h = elim h as (λ _. ⊥) [ inl here ↦ none found here | inr later ↦ more found later.1 ]

  pub none_append : (xs ys : List A) → HaveNone Has xs → HaveNone Has ys → HaveNone Has (xs ++ ys)
  none_append [] ys none more = more
  none_append (x ∷ xs) ys none more =
      none_more x (xs ++ ys) (λ found here. none found (inl here)) (none_append xs ys (λ found later. none found (inr ((λ other here. none other (inl here)), later))) more)

  -- the first is behind a front that has nothing
  pub first_past : (xs ys : List A) (found : F) → HaveNone Has xs → First Has ys found → First Has (xs ++ ys) found
  first_past [] ys found none later = later
  first_past (x ∷ xs) ys found none later =
      inr ((λ other here. none other (inl here)), first_past xs ys found (λ other more. none other (inr ((λ it here. none it (inl here)), more))) later)

-- items of two lists that are made alike, and that have the same, have the same first
module _ {A B C F : Type 0} (P : A → F → Type 0) (Q : B → F → Type 0) (f : A → C) (g : B → C) where
  pub first_alike : (xs : List A) (ys : List B) → map f xs ≡ map g ys → ((x : A) (y : B) → Contains ys y → f x ≡ g y → (found : F) → P x found ↔ Q y found)
      → (found : F) → First P xs found ↔ First Q ys found
  first_alike [] [] is each found = (λ h. h, λ h. h)
  first_alike [] (y ∷ ys) is each found = let e : [] ≡ g y ∷ map g ys = is in cc
  first_alike (x ∷ xs) [] is each found = let e : f x ∷ map f xs ≡ [] = is in cc
  first_alike (x ∷ xs) (y ∷ ys) is each found =
      let e : f x ∷ map f xs ≡ g y ∷ map g ys = is in
      let head : f x ≡ g y = cc in
      let tail : map f xs ≡ map g ys = cc in
      let here = each x y (Contains-head y ys) head in
      let rest = first_alike xs ys tail (λ a b h. each a b (Contains-tail y ys b h)) found in (
        λ h. elim h as (λ _. First Q (y ∷ ys) found) [ inl p ↦ inl ((here found).0 p) | inr p ↦ inr ((λ other q. p.0 other ((here other).1 q)), rest.0 p.1) ],
        λ h. elim h as (λ _. First P (x ∷ xs) found) [ inl q ↦ inl ((here found).1 q) | inr q ↦ inr ((λ other p. q.0 other ((here other).0 p)), rest.1 q.1) ],
      )

-- the places of two lists in a row are those of the first, and then those of the second behind it
pub places_append : {A : Type 0} (before xs ys : List A) → places_from before (xs ++ ys) ≡ places_from before xs ++ places_from (before ++ xs) ys
places_append before [] ys = ap (λ z. places_from z ys) (sym (append-nil before))
places_append {A} before (x ∷ xs) ys =
    let here : At A = record { before = before; item = x } in
    ap (λ z. here ∷ z) (
    places_append (before ++ x ∷ []) xs ys
    ∙ ap (λ z. places_from (before ++ x ∷ []) xs ++ places_from z ys) (append_assoc before (x ∷ []) xs)
    )
