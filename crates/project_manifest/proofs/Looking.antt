-- A loop over a list, of which the item at this place is looked at.
use Rattle.std.proofs.Common.{◌≡◌, ◌+◌, ◌<◌, ℕ, true, false, List, [], ◌∷◌, ◌++◌, length, map, take, drop, get_or, sym, ap, subst, ◌∙◌, inl, inr}
use Rattle.std.proofs.lemmas.List.{map-append, take-append-drop, take_more}
use Rattle.std.proofs.lemmas.List.Elements.{Contains-append_right, Contains-push_cases}
use Rattle.std.specs.List.{Contains}
use Rattle.word_relations.proofs.Behind.{left_behind}
use Rattle.word_relations.proofs.Members.{Contains-head, Contains-nil_cases}
use Rattle.project_manifest.specs.Lines.{Line, NamesAgain, Placed, file_in, files_in, is_gloss}
use Rattle.project_manifest.specs.Reading.{HaveGlosses}
use Rattle.project_manifest.specs.Sayings.{line_of, placed_of}
use Rattle.project_manifest.specs.declared.manifest.ManifestLine.{ManifestLine}

module _ {X : Type 0} (xs : List X) (i : ℕ) (x : X) (below : i < length xs) (is : x ≡ get_or xs i x) where
  front_more : take (i + 1) xs ≡ take i xs ++ x ∷ []
  front_more = take_more xs i x below ∙ ap (λ (e : X). take i xs ++ e ∷ []) (sym is)

  pub among : Contains xs x
  among =
      let split : xs ≡ take i xs ++ x ∷ drop (i + 1) xs = sym (take-append-drop i xs) ∙ ap (λ (z : List X). take i xs ++ z) (left_behind xs i x below is) in
      subst (λ (z : List X). Contains z x) (sym split) (Contains-append_right (take i xs) (x ∷ drop (i + 1) xs) x (Contains-head x (drop (i + 1) xs)))

  pub not_so_far : (y : X) → (Contains (take i xs) y → ⊥) → (x ≡ y → ⊥) → Contains (take (i + 1) xs) y → ⊥
  not_so_far y none other h = elim (Contains-push_cases (take i xs) x y (subst (λ (z : List X). Contains z y) front_more h)) as (λ _. ⊥) [ inl before ↦ none before | inr here ↦ other here ]

-- a line that names the table of glosses
module _ (xs : List ManifestLine) (i : ℕ) (x : ManifestLine) (below : i < length xs) (is : x ≡ get_or xs i x) where
  line_front : map placed_of (take (i + 1) xs) ≡ map placed_of (take i xs) ++ placed_of x ∷ []
  line_front = ap (map placed_of) (take_more xs i x below ∙ ap (λ (e : ManifestLine). take i xs ++ e ∷ []) (sym is)) ∙ map-append placed_of (take i xs) (x ∷ [])

  pub glosses_here : is_gloss (line_of x.declares) ≡ true → HaveGlosses (map placed_of xs)
  glosses_here glosses =
      let split : map placed_of xs ≡ map placed_of (take i xs) ++ placed_of x ∷ map placed_of (drop (i + 1) xs) =
      ap (map placed_of) (sym (take-append-drop i xs)) ∙ map-append placed_of (take i xs) (drop i xs) ∙ ap (λ (z : List ManifestLine). map placed_of (take i xs) ++ map placed_of z) (left_behind xs i x below is) in
      (placed_of x, subst (λ (z : List Placed). Contains z (placed_of x)) (sym split) (Contains-append_right (map placed_of (take i xs)) (placed_of x ∷ map placed_of (drop (i + 1) xs)) (placed_of x) (Contains-head (placed_of x) (map placed_of (drop (i + 1) xs)))), glosses)

  pub no_glosses_yet : (HaveGlosses (map placed_of (take i xs)) → ⊥) → is_gloss (line_of x.declares) ≡ false → HaveGlosses (map placed_of (take (i + 1) xs)) → ⊥
  no_glosses_yet none other (l, h, glosses) =
      elim (Contains-push_cases (map placed_of (take i xs)) (placed_of x) l (subst (λ (z : List Placed). Contains z l) line_front h)) as (λ _. ⊥) [
        | inl before ↦ none (l, before, glosses)
        | inr here ↦ let clash : false ≡ true = sym other ∙ ap (λ (p : Placed). is_gloss p.said) here ∙ glosses in cc
      ]

pub no_glosses : HaveGlosses [] → ⊥
no_glosses (l, h, glosses) = Contains-nil_cases l h

-- What is declared was declared before.
module _ (before : List Placed) (said : Line) where
  pub again_by_glosses : is_gloss said ≡ true → HaveGlosses before → NamesAgain before said
  again_by_glosses glosses (l, h, also) = inr (glosses, l, h, also)

  pub again_by_file : (file : List ℕ) → file_in said ≡ file ∷ [] → Contains (files_in before) file → NamesAgain before said
  again_by_file file names h = inl (file, subst (λ (z : List (List ℕ)). Contains z file) (sym names) (Contains-head file []), h)

  -- it is neither
  pub not_again : (is_gloss said ≡ true → HaveGlosses before → ⊥) → ((file : List ℕ) → Contains (file_in said) file → Contains (files_in before) file → ⊥) → NamesAgain before said → ⊥
  not_again glosses files (inl (file, named, h)) = files file named h
  not_again glosses files (inr (is, l, h, also)) = glosses is (l, h, also)

  pub only_file : (file : List ℕ) → file_in said ≡ file ∷ [] → (Contains (files_in before) file → ⊥) → (other : List ℕ) → Contains (file_in said) other → Contains (files_in before) other → ⊥
  only_file file names new other named h =
      elim (Contains-push_cases [] file other (subst (λ (z : List (List ℕ)). Contains z other) names named)) as (λ _. ⊥) [
        | inl never ↦ Contains-nil_cases other never
        | inr same ↦ new (subst (Contains (files_in before)) (sym same) h)
      ]

  pub no_file : file_in said ≡ [] → (other : List ℕ) → Contains (file_in said) other → Contains (files_in before) other → ⊥
  no_file none other named h = Contains-nil_cases other (subst (λ (z : List (List ℕ)). Contains z other) none named)
