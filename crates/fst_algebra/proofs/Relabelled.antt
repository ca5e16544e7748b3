-- Substitutions in which each letter has a letter or epsilon as its image: each word has one image.
use Rattle.std.proofs.Common.{◌≡◌, ◌↔◌, List, [], ◌∷◌, ◌++◌, Option, Some, None, refl, subst, ap, ◌∙◌}
use Rattle.std.specs.List.{flat_map}
use Rattle.std.specs.Option.{option_to_list}
use Rattle.fsa.specs.Automaton.{Automaton, UsesLetter}
use Rattle.fsa.specs.Language.{Accepts}
use Rattle.fst_algebra.specs.declared.substitution.Image.{Image}
use Rattle.fst_algebra.specs.declared.substitution.Image.TheVariants.{Letter, Epsilon}
use Rattle.fst_algebra.specs.Substituted.{Spells, finish, keep, omit, IsSubstituted, letter_or_epsilon}

-- the word with each letter replaced
abbrev pub relabelled : {L M : Type 0} → (L → Option M) → List L → List M
relabelled change word = flat_map (λ x. option_to_list (change x)) word

-- the words of the set, with each letter replaced
abbrev pub IsRelabelled : {L M : Type 0} → (L → Option M) → (List L → Type 0) → List M → Type 0
IsRelabelled {L} change P w = (v : List L) × P v × (relabelled change v ≡ w)

-- the letter whose image is a letter
pub letter_of : {M : Type 0} (letter : Option M) (y : M) → letter_or_epsilon letter ≡ Letter y → letter ≡ Some y
letter_of None y is = let clash : Epsilon ≡ Letter y = is in absurd (cc)
letter_of (Some x) y is = let same : Letter x ≡ Letter y = is in cc

no_letter : {M : Type 0} (letter : Option M) → letter_or_epsilon letter ≡ Epsilon → letter ≡ None
no_letter None is = refl
no_letter {M} (Some x) is = let clash : Letter x ≡ Epsilon = is in absurd (cc)

module _ {L M : Type 0} (change : L → Option M) where
  abbrev image : L → Image M
  image x = letter_or_epsilon (change x)

  spelled : {v : List L} {w : List M} → Spells image v w → relabelled change v ≡ w
  spelled finish = refl
  spelled (keep {x = x} {y = y} {v = v} is rest) = ap (λ o. option_to_list o ++ relabelled change v) (letter_of (change x) y is) ∙ ap (λ u. y ∷ u) (spelled rest)
  spelled (omit {x = x} {v = v} is rest) = ap (λ o. option_to_list o ++ relabelled change v) (no_letter (change x) is) ∙ spelled rest

  spells_more : (x : L) (v : List L) (w : List M) (o : Option M) → change x ≡ o → Spells image v w → Spells image (x ∷ v) (option_to_list o ++ w)
  spells_more x v w None is rest = omit (ap letter_or_epsilon is) rest
  spells_more x v w (Some y) is rest = keep (ap letter_or_epsilon is) rest

  spells : (v : List L) → Spells image v (relabelled change v)
  spells [] = finish
  spells (x ∷ v) = spells_more x v (relabelled change v) (change x) refl (spells v)

  module _ (a : Automaton L) (m : Automaton M) where
    pub as_relabelled : ((w : List M) → Accepts m w ↔ IsSubstituted image (Accepts a) w) → (w : List M) → Accepts m w ↔ IsRelabelled change (Accepts a) w
    as_relabelled same w = (
      λ h. let r = (same w).0 h in (r.0, r.1, spelled r.2),
      λ (v, path, is). (same w).1 (v, path, subst (Spells image v) is (spells v)),
    )

    pub relabelled_letters : ((y : M) → UsesLetter m y → (x : L) × UsesLetter a x × (image x ≡ Letter y)) → (y : M) → UsesLetter m y → (x : L) × UsesLetter a x × (change x ≡ Some y)
    relabelled_letters letters y uses = let r = letters y uses in (r.0, r.1, letter_of (change r.0) y r.2)
