-- Substitutions in which each letter has a letter or nothing as its image: a word has an image if each of its letters
-- has a new name.
use Rattle.std.proofs.Common.{◌≡◌, ◌↔◌, List, [], ◌∷◌, Option, Some, None, map, refl, ap, ◌∙◌}
use Rattle.fsa.specs.Automaton.{Automaton, UsesLetter}
use Rattle.fsa.specs.Language.{Accepts}
use Rattle.fst_algebra.specs.declared.substitution.Image.{Image}
use Rattle.fst_algebra.specs.declared.substitution.Image.TheVariants.{Letter, Epsilon, Nothing}
use Rattle.fst_algebra.specs.Substituted.{Spells, finish, keep, omit, IsSubstituted}
use Rattle.network_algebra.specs.Renamed.{IsRenamed, letter_or_nothing}

-- the new name whose image is a letter
letter_named : {M : Type 0} (name : Option M) (y : M) → letter_or_nothing name ≡ Letter y → name ≡ Some y
letter_named None y is = let clash : Nothing ≡ Letter y = is in absurd (cc)
letter_named (Some x) y is = let same : Letter x ≡ Letter y = is in cc

never_epsilon : {M : Type 0} (name : Option M) → letter_or_nothing name ≡ Epsilon → ⊥
never_epsilon {M} None is = let nothing : Image M = Nothing in let clash : nothing ≡ Epsilon = is in cc
never_epsilon (Some x) is = let clash : Letter x ≡ Epsilon = is in cc

module _ {L M : Type 0} (name : L → Option M) where
  abbrev image : L → Image M
  image x = letter_or_nothing (name x)

  named : {v : List L} {w : List M} → Spells image v w → map name v ≡ map Some w
  named finish = refl
  named (keep {x = x} {y = y} {v = v} is rest) = ap (λ z. z ∷ map name v) (letter_named (name x) y is) ∙ ap (λ z. Some y ∷ z) (named rest)
  named (omit {x = x} is rest) = absurd (never_epsilon (name x) is)

  spells : (v : List L) (w : List M) → map name v ≡ map Some w → Spells image v w
  spells [] [] is = finish
  spells [] (y ∷ w) is = let clash : [] ≡ Some y ∷ map Some w = is in absurd (cc)
  spells (x ∷ v) [] is = let clash : name x ∷ map name v ≡ [] = is in absurd (cc)
  spells (x ∷ v) (y ∷ w) is =
      let both : name x ∷ map name v ≡ Some y ∷ map Some w = is in
      let head : name x ≡ Some y = cc in
      let tail : map name v ≡ map Some w = cc in
      keep (ap letter_or_nothing head) (spells v w tail)

  module _ (a : Automaton L) (m : Automaton M) where
    pub renamed_language : ((w : List M) → Accepts m w ↔ IsSubstituted image (Accepts a) w) → (w : List M) → Accepts m w ↔ IsRenamed name (Accepts a) w
    renamed_language same w = (
      λ h. let r = (same w).0 h in (r.0, r.1, named r.2),
      λ (v, path, is). (same w).1 (v, path, spells v w is),
    )

    pub renamed_letters : ((y : M) → UsesLetter m y → (x : L) × UsesLetter a x × (image x ≡ Letter y)) → (y : M) → UsesLetter m y → (x : L) × UsesLetter a x × (name x ≡ Some y)
    renamed_letters letters y uses = let r = letters y uses in (r.0, r.1, letter_named (name r.0) y r.2)
