-- The rows of a table that give a letter and those that give none, row by row.
use Rattle.std.proofs.Common.{◌≡◌, ℕ, ◌+◌, ◌<◌, ◌≤◌, ◌↔◌, List, [], ◌∷◌, ◌++◌, true, false, Option, Some, None, length, get_or, take, refl, subst, sym, ap, inl, inr, ◌∙◌}
use Rattle.std.specs.List.{Contains}
use Rattle.std.specs.Option.{is_some}
use Rattle.std.proofs.lemmas.Option.{same_Some}
use Rattle.std.proofs.lemmas.List.{take_all}
use Rattle.std.proofs.lemmas.List.Elements.{Contains-push_cases, Contains-push, Contains-append_left}
use Rattle.word_relations.proofs.Members.{Contains-nil_cases}
use Rattle.fsa_rational.proofs.Bypassing.{more_held, last_held, held_cases}

gives_none : {M : Type 0} (y : Option M) → is_some y ≡ false → y ≡ None
gives_none None e = refl
gives_none (Some y) e = cc

-- the list has each item of which the other list has the source
abbrev pub Gathers : {X Y : Type 0} → (Y → X) → List X → List Y → Type 0
Gathers {X} {Y} source items gathered = (y : Y) → Contains gathered y ↔ Contains items (source y)

module _ {X Y : Type 0} (source : Y → X) (items : List X) where
  pub gathers_none : Gathers source (take 0 items) []
  gathers_none y = (λ h. absurd (Contains-nil_cases y h), λ h. absurd (Contains-nil_cases (source y) h))

  pub gathers_all : (i : ℕ) (gathered : List Y) → length items ≤ i → Gathers source (take i items) gathered → Gathers source items gathered
  gathers_all i gathered past h = subst (λ xs. Gathers source xs gathered) (take_all i items past) h

  module _ (i : ℕ) (x : X) (within : i < length items) (at : x ≡ get_or items i x) (gathered : List Y) (before : Gathers source (take i items) gathered) where
    pub gathers_more : (y : Y) → source y ≡ x → ((z : Y) → source z ≡ x → y ≡ z) → Gathers source (take (i + 1) items) (gathered ++ y ∷ [])
    gathers_more y is only z = (
      λ h. elim (Contains-push_cases gathered y z h) [
        | inl held ↦ more_held items i x within at (source z) ((before z).0 held)
        | inr same ↦ subst (λ k. Contains (take (i + 1) items) k) (sym is ∙ ap source same) (last_held items i x within at)
      ],
      λ h. elim (held_cases items i x within at (source z) h) [
        | inl held ↦ Contains-append_left gathered (y ∷ []) z ((before z).1 held)
        | inr same ↦ subst (λ k. Contains (gathered ++ y ∷ []) k) (only z (sym same)) (Contains-push gathered y)
      ],
    )

    pub gathers_past : ((z : Y) → source z ≡ x → ⊥) → Gathers source (take (i + 1) items) gathered
    gathers_past other z = (
      λ h. more_held items i x within at (source z) ((before z).0 h),
      λ h. elim (held_cases items i x within at (source z) h) [
        | inl held ↦ (before z).1 held
        | inr same ↦ absurd (other z (sym same))
      ],
    )

module _ {L M : Type 0} (table : List (L × Option M)) (i : ℕ) (row : L × Option M) (within : i < length table) (at : row ≡ get_or table i row) where
  -- a row that gives a letter
  pub kept_more : (gathered : List (M × L)) (y : M) → row.1 ≡ Some y → Gathers (λ r. (r.1, Some r.0)) (take i table) gathered → Gathers (λ r. (r.1, Some r.0)) (take (i + 1) table) (gathered ++ (y, row.0) ∷ [])
  kept_more gathered y gives before =
      gathers_more (λ r. (r.1, Some r.0)) table i row within at gathered before (y, row.0) (ap (λ z. (row.0, z)) (sym gives))
      (λ z e.
      let letter : y ≡ z.0 = same_Some y z.0 (sym gives ∙ sym (ap (λ r. r.1) e)) in
      let key : row.0 ≡ z.1 = sym (ap (λ r. r.0) e) in
      ap (λ v. (v, row.0)) letter ∙ ap (λ u. (z.0, u)) key)

  pub kept_past : (gathered : List (M × L)) → ((y : M) → row.1 ≡ Some y → ⊥) → Gathers (λ r. (r.1, Some r.0)) (take i table) gathered → Gathers (λ r. (r.1, Some r.0)) (take (i + 1) table) gathered
  kept_past gathered none before =
      gathers_past (λ r. (r.1, Some r.0)) table i row within at gathered before (λ z e. none z.0 (sym (ap (λ r. r.1) e)))

  -- a row that gives none
  pub omitted_more : (gathered : List L) → is_some row.1 ≡ false → Gathers (λ x. (x, None)) (take i table) gathered → Gathers (λ x. (x, None)) (take (i + 1) table) (gathered ++ row.0 ∷ [])
  omitted_more gathered none before =
      gathers_more (λ x. (x, None)) table i row within at gathered before row.0 (ap (λ z. (row.0, z)) (sym (gives_none row.1 none))) (λ z e. sym (ap (λ r. r.0) e))

  pub omitted_past : (gathered : List L) → is_some row.1 ≡ true → Gathers (λ x. (x, None)) (take i table) gathered → Gathers (λ x. (x, None)) (take (i + 1) table) gathered
  omitted_past gathered some before =
      gathers_past (λ x. (x, None)) table i row within at gathered before (λ z e. let clash : false ≡ true = ap (λ r. is_some r.1) e ∙ some in absurd (cc))
