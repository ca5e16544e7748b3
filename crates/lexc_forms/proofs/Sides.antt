-- The two sides of a word.
use Rattle.std.proofs.Common.{◌≡◌, ℕ, true, false, List, ◌∷◌, ◌++◌, take, drop, None, Some, refl, sym, ap, ◌∙◌, inl, inr}
use Rattle.std.proofs.lemmas.Bool.Decides.{Decides-eqb}
use Rattle.std.specs.List.{list_any, position}
use Rattle.lexc_forms.specs.declared.letters.Letter.{Letter}
use Rattle.lexc_forms.specs.declared.letters.Letter.TheVariants.{Plain, Escaped}
use Rattle.lexc_forms.specs.Letters.{is_colon}
use Rattle.lexc_forms.specs.Forms.{HasSides, HasNoSides}
use Rattle.lexc_forms.proofs.Positions.{FirstAt, first_at, none_passes, one_first, any_inside}

colon_is : (letter : Letter) → is_colon letter ≡ true → letter ≡ Plain 58
colon_is (Plain c) is = ap Plain ((Decides-eqb c 58).0 is)
colon_is (Escaped c) is = absurd cc

pub alike : (word : List Letter) → None ≡ position is_colon word → HasSides word word word
alike word none = inl (none_passes is_colon word (sym none), refl, refl)

module _ (word upper rest lower : List Letter) (place : ℕ) (found : Some place ≡ position is_colon word) (upper_is : upper ≡ take place word) (rest_is : rest ≡ drop place word) (lower_is : lower ≡ drop 1 rest) where
  at : FirstAt is_colon word place
  at = first_at is_colon word place (sym found)

  none_above : list_any is_colon upper ≡ false
  none_above = ap (list_any is_colon) upper_is ∙ at.before

  split : word ≡ upper ++ Plain 58 ∷ lower
  split =
      at.split ∙ ap (λ (l : Letter). take place word ++ l ∷ drop 1 (drop place word)) (colon_is at.element at.passes)
      ∙ ap (λ (z : List Letter). take place word ++ Plain 58 ∷ z) (sym (lower_is ∙ ap (drop 1) rest_is))
      ∙ ap (λ (z : List Letter). z ++ Plain 58 ∷ lower) (sym upper_is)

  pub apart : list_any is_colon lower ≡ false → HasSides word upper lower
  apart none = inr (split, none_above, none)

  pub second : list_any is_colon lower ≡ true → HasNoSides word
  second some up low sides = elim sides as (λ _. ⊥) [
    | inl same ↦ any_inside is_colon upper lower (Plain 58) refl (sym (ap (list_any is_colon) split) ∙ same.0)
    | inr parts ↦
        let equal = one_first is_colon upper up lower low (Plain 58) (Plain 58) none_above parts.1 refl refl (sym split ∙ parts.0) in
        let clash : true ≡ false = sym some ∙ ap (list_any is_colon) equal.1 ∙ parts.2 in cc
  ]
