-- A string keeps a rule exactly where it has isnt bad split.
use Rattle.std.proofs.Common.{◌≡◌, ◌+◌, ◌⊎◌, List, Option, ◌∷◌, ◌++◌, Some, None, length, refl, ap, ◌∙◌, inl, inr}
use Rattle.std.specs.Option.{option_to_list}
use Rattle.regex_ast.specs.declared.twolc.RuleKind.{RuleKind}
use Rattle.regex_ast.specs.declared.twolc.RuleKind.TheVariants.{Only, Must, Both, Never}
use Rattle.project_meaning.specs.TwoLevel.{KeepsBy, KeepsMust, KeepsOnly}
use Rattle.pair_test.specs.Splits.{IsBad, IsBroken, IsOther}

module _ {X S : Type 0} (up low : X → Option S) (Holds : List X → List X → Type 0) (centre : X) (p : List X) where
  abbrev Split : List X → Option X → List X → Type 0
  Split x filling z = p ≡ x ++ (option_to_list filling ++ z)

  at_centre : (x z : List X) (filling : Option X) → Split x filling z → filling ≡ Some centre → p ≡ x ++ centre ∷ z
  at_centre x z filling is e = is ∙ ap (λ (f : Option X). x ++ (option_to_list f ++ z)) e

  must_there : KeepsMust up low Holds centre p → (x z : List X) (filling : Option X) → Split x filling z → IsOther up low centre filling → Holds x z → ⊥
  must_there (pairs, gaps) x z (Some other) is (same, apart) holds = pairs x z other is same apart holds
  must_there (pairs, gaps) x z None is inserts holds = gaps inserts x z is holds

  pub keeps_there : (kind : RuleKind) → KeepsBy up low Holds kind centre p → IsBroken up low Holds kind centre p → ⊥
  keeps_there Only keeps (place, (x, filling, z, is, at, bad)) =
      elim bad as (λ _. ⊥) [
        | inl h ↦ h.1 (keeps x z (at_centre x z filling is h.0))
        | inr h ↦ h.0
      ]
  keeps_there Must keeps (place, (x, filling, z, is, at, bad)) =
      elim bad as (λ _. ⊥) [
        | inl h ↦ h.0
        | inr h ↦ must_there keeps x z filling is h.0 h.1
      ]
  keeps_there Both keeps (place, (x, filling, z, is, at, bad)) =
      elim bad as (λ _. ⊥) [
        | inl h ↦ h.1 (keeps.0 x z (at_centre x z filling is h.0))
        | inr h ↦ must_there keeps.1 x z filling is h.0 h.1
      ]
  keeps_there Never keeps (place, (x, filling, z, is, at, bad)) =
      elim bad as (λ _. ⊥) [
        | inl h ↦ h.0
        | inr h ↦ keeps x z (at_centre x z filling is h.0) h.1
      ]

  module _ (decided : (x z : List X) → Holds x z ⊎ (Holds x z → ⊥)) where
    only_back : (kind : RuleKind) → ((x z : List X) → (Holds x z → ⊥) → IsBad up low kind centre (Some centre) (Holds x z)) → (IsBroken up low Holds kind centre p → ⊥) → KeepsOnly up low Holds centre p
    only_back kind bad free x z is =
        elim (decided x z) as (λ _. Holds x z) [
          | inl h ↦ h
          | inr isnt ↦ absurd (free (length x + 1, (x, Some centre, z, is, refl, bad x z isnt)))
        ]

    must_back : (kind : RuleKind) → ((x z : List X) (filling : Option X) → IsOther up low centre filling → Holds x z → IsBad up low kind centre filling (Holds x z)) → (IsBroken up low Holds kind centre p → ⊥) → KeepsMust up low Holds centre p
    must_back kind bad free = (
      λ x z other is same apart holds. free (length x + 1, (x, Some other, z, is, refl, bad x z (Some other) (same, apart) holds)),
      λ inserts x z is holds. free (length x + 1, (x, None, z, is, refl, bad x z None inserts holds)),
    )

    pub keeps_back : (kind : RuleKind) → (IsBroken up low Holds kind centre p → ⊥) → KeepsBy up low Holds kind centre p
    keeps_back Only free = only_back Only (λ x z isnt. inl (refl, isnt)) free
    keeps_back Must free = must_back Must (λ x z filling other holds. inr (other, holds)) free
    keeps_back Both free = (only_back Both (λ x z isnt. inl (refl, isnt)) free, must_back Both (λ x z filling other holds. inr (other, holds)) free)
    keeps_back Never free = λ x z is holds. free (length x + 1, (x, Some centre, z, is, refl, inr (refl, holds)))
