-- Lists that are found again at a place.
use Rattle.std.proofs.Common.{◌≡◌, ℕ, List, true, Some, map, refl, sym, ap, ◌∙◌}
use Rattle.std.specs.List.{slice_get}
use Rattle.std.specs.Cmp.Lexicographic.{pointwise}
use Rattle.std.specs.Option.{option_map}
use Rattle.std.specs.Prelude.{nat_eq}
use Rattle.std.proofs.lemmas.Option.{slice_get-map}
use Rattle.std.proofs.lemmas.Slice.Eq.{slice_eq-Decides}
use Rattle.std.proofs.lemmas.Bool.Decides.{Decides-eqb}

module _ {X : Type 0} (items : X → List ℕ) (list : List ℕ) where
  -- an entry that compares equal to the list stands there for it
  pub numbered_at : (keys : List X) (i : ℕ) (x : X) → slice_get keys i ≡ Some x → pointwise nat_eq list (items x) ≡ true → slice_get (map items keys) i ≡ Some list
  numbered_at keys i x at same =
      let is : list ≡ items x = (slice_eq-Decides Decides-eqb list (items x) (pointwise nat_eq list (items x)) refl).0 same in
      slice_get-map items keys i ∙ ap (option_map items) at ∙ ap Some (sym is)
