-- The weight of lexicons by the numbers of their leaves is that by their texts, as far as weights are told apart.
use Rattle.std.proofs.Common.{◌≡◌, ◌+◌, ℕ, List, [], ◌∷◌, map, refl, sym, ap, ◌∙◌, arith}
use Rattle.std.specs.Prelude.{sum_by}
use Rattle.std.proofs.lemmas.List.{length-map}
use Rattle.std.proofs.lemmas.List.Sums.{sum_by-cons}
use Rattle.expr_kinds.specs.Forms.{capped}
use Rattle.expr_kinds.specs.Weights.{most_weight, weight_of}
use Rattle.expr_kinds.proofs.WeightLaws.{capped_alike}
use Rattle.project_meaning.specs.Trees.{Form, sides, pairs, Entry, Lexicon}
use Rattle.project_meaning.specs.Leaves.{Leaf}
use Rattle.project_meaning.specs.Forms.{leaf_weight, form_weight as meant_form_weight, lexicon_weight as meant_lexicon_weight, weighty as meant_weighty}
use Rattle.project_meaning.specs.Lexicons.{piece_by}
use Rattle.expr_spelling.specs.Mapped.{mapped_entry, mapped_form, mapped_lexicon}
use Rattle.project_definitions.specs.Bodies.{form_weight, lexicon_weight, weighty}
use Rattle.grammar_weights.proofs.Replaced.{mapped_weight}

-- sums of items that weigh the same
sum_alike : {X Y : Type 0} (to : X → Y) (f : Y → ℕ) (g : X → ℕ) → ((x : X) → f (to x) ≡ g x) → (xs : List X) → sum_by f (map to xs) ≡ sum_by g xs
sum_alike to f g alike [] = refl
sum_alike to f g alike (x ∷ xs) =
    let here = alike x in
    let rest = sum_alike to f g alike xs in
    sum_by-cons f (to x) (map to xs) ∙ (λ i. here i + rest i) ∙ sym (sum_by-cons g x xs)

sum_same : {X : Type 0} (f g : X → ℕ) → ((x : X) → f x ≡ g x) → (xs : List X) → sum_by f xs ≡ sum_by g xs
sum_same f g alike [] = refl
sum_same f g alike (x ∷ xs) =
    let here = alike x in
    let rest = sum_same f g alike xs in
    sum_by-cons f x xs ∙ (λ i. here i + rest i) ∙ sym (sum_by-cons g x xs)

-- and of items that weigh the same as far as weights are told apart
pub capped_sums : (a b c d : ℕ) → capped a ≡ capped b → capped c ≡ capped d → capped (a + c) ≡ capped (b + d)
unfolding capped most_weight
capped_sums a b c d first second = omega (arith, first, second)

sum_capped : {X : Type 0} (f g : X → ℕ) → ((x : X) → capped (f x) ≡ capped (g x)) → (xs : List X) → capped (sum_by f xs) ≡ capped (sum_by g xs)
sum_capped f g alike [] = refl
sum_capped f g alike (x ∷ xs) =
    ap capped (sum_by-cons f x xs) ∙ capped_sums (f x) (g x) (sum_by f xs) (sum_by g xs) (alike x) (sum_capped f g alike xs) ∙ ap capped (sym (sum_by-cons g x xs))

-- lexicons whose leaves are replaced
module _ {A B : Type 0} (leaf : B → ℕ) (f : A → B) where
  abbrev before : A → ℕ
  before a = leaf (f a)

  form_is : (form : Form A) → form_weight leaf (mapped_form f f form) ≡ form_weight before form
  form_is (sides upper lower) =
      let up = length-map upper (piece_by f) in
      let low = length-map lower (piece_by f) in
      λ i. up i + low i + 1
  form_is (pairs e) = ap (λ n. n + 1) (mapped_weight leaf f e)

  lexicon_is : (lexicon : Lexicon A) → lexicon_weight leaf (mapped_lexicon f f lexicon) ≡ lexicon_weight before lexicon
  lexicon_is lexicon = by lexicon.name
    where
      by : (name : List ℕ) → sum_by (λ (entry : Entry B). form_weight leaf entry.form) (weighty name (map (mapped_entry f f) lexicon.entries)) ≡ sum_by (λ (entry : Entry A). form_weight before entry.form) (weighty name lexicon.entries)
      by [] = refl
      by (b ∷ bs) = sum_alike (mapped_entry f f) (λ (entry : Entry B). form_weight leaf entry.form) (λ (entry : Entry A). form_weight before entry.form) (λ entry. form_is entry.form) lexicon.entries

  pub lexicons_mapped : (lexicons : List (Lexicon A)) → sum_by (lexicon_weight leaf) (map (mapped_lexicon f f) lexicons) ≡ sum_by (lexicon_weight before) lexicons
  lexicons_mapped lexicons = sum_alike (mapped_lexicon f f) (lexicon_weight leaf) (lexicon_weight before) lexicon_is lexicons

-- lexicons of a project, where its names have these weights
module _ (weights : List ℕ → ℕ) where
  meant_form : (form : Form Leaf) → form_weight (leaf_weight weights) form ≡ meant_form_weight weights form
  meant_form (sides upper lower) = refl
  meant_form (pairs e) = refl

  meant_lexicon : (lexicon : Lexicon Leaf) → lexicon_weight (leaf_weight weights) lexicon ≡ meant_lexicon_weight weights lexicon
  meant_lexicon lexicon = by lexicon.name
    where
      by : (name : List ℕ) → sum_by (λ (entry : Entry Leaf). form_weight (leaf_weight weights) entry.form) (weighty name lexicon.entries) ≡ sum_by (λ (entry : Entry Leaf). meant_form_weight weights entry.form) (meant_weighty name lexicon.entries)
      by [] = refl
      by (b ∷ bs) = sum_same (λ (entry : Entry Leaf). form_weight (leaf_weight weights) entry.form) (λ (entry : Entry Leaf). meant_form_weight weights entry.form) (λ entry. meant_form entry.form) lexicon.entries

  pub lexicons_meant : (lexicons : List (Lexicon Leaf)) → sum_by (lexicon_weight (leaf_weight weights)) lexicons ≡ sum_by (meant_lexicon_weight weights) lexicons
  lexicons_meant lexicons = sum_same (lexicon_weight (leaf_weight weights)) (meant_lexicon_weight weights) meant_lexicon lexicons

-- lexicons where names have other weights, which are the same as far as weights are told apart
module _ (one other : List ℕ → ℕ) (alike : (leaf : Leaf) → capped (leaf_weight one leaf) ≡ capped (leaf_weight other leaf)) where
  capped_form : (form : Form Leaf) → capped (meant_form_weight one form) ≡ capped (meant_form_weight other form)
  capped_form (sides upper lower) = refl
  capped_form (pairs e) = capped_sums (weight_of (leaf_weight one) e) (weight_of (leaf_weight other) e) 1 1 (capped_alike (leaf_weight one) (leaf_weight other) alike e) refl

  capped_lexicon : (lexicon : Lexicon Leaf) → capped (meant_lexicon_weight one lexicon) ≡ capped (meant_lexicon_weight other lexicon)
  capped_lexicon lexicon = by lexicon.name
    where
      by : (name : List ℕ) → capped (sum_by (λ (entry : Entry Leaf). meant_form_weight one entry.form) (meant_weighty name lexicon.entries)) ≡ capped (sum_by (λ (entry : Entry Leaf). meant_form_weight other entry.form) (meant_weighty name lexicon.entries))
      by [] = refl
      by (b ∷ bs) = sum_capped (λ (entry : Entry Leaf). meant_form_weight one entry.form) (λ (entry : Entry Leaf). meant_form_weight other entry.form) (λ entry. capped_form entry.form) lexicon.entries

  pub lexicons_capped : (lexicons : List (Lexicon Leaf)) → capped (sum_by (meant_lexicon_weight one) lexicons) ≡ capped (sum_by (meant_lexicon_weight other) lexicons)
  lexicons_capped lexicons = sum_capped (meant_lexicon_weight one) (meant_lexicon_weight other) capped_lexicon lexicons
