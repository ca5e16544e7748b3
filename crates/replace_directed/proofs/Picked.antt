-- Those of a list that have a property, one after another.
use Rattle.std.proofs.Common.{◌≡◌, ◌↔◌, ℕ, ◌+◌, ◌<◌, length, take, get_or, List, [], ◌∷◌, ◌++◌, sym, subst, inl, inr}
use Rattle.std.specs.List.{Contains}
use Rattle.std.proofs.lemmas.List.Elements.{Contains-append_left, Contains-append_right, Contains-push_cases}
use Rattle.std.proofs.lemmas.List.{take_more}
use Rattle.fsm_base.specs.declared.letters.Bound.{Bound}
use Rattle.word_relations.proofs.Members.{Contains-nil_cases, Contains-head}
use Rattle.replace_words.specs.declared.marks.Mark.{Mark}

module _ (P : Bound Mark → Type 0) where
  abbrev pub ArePicked : List (Bound Mark) → List (Bound Mark) → Type 0
  ArePicked marks found = (m : Bound Mark) → Contains found m ↔ (Contains marks m × P m)

  pub picked_none : ArePicked [] []
  picked_none m = (λ h. absurd (Contains-nil_cases m h), λ h. absurd (Contains-nil_cases m h.0))

  last_in : (xs : List (Bound Mark)) (x m : Bound Mark) → x ≡ m → Contains (xs ++ x ∷ []) m
  last_in xs x m e = Contains-append_right xs (x ∷ []) m (subst (Contains (x ∷ [])) e (Contains-head x []))

  pub picked_more : (front found : List (Bound Mark)) (x : Bound Mark) → ArePicked front found → P x → ArePicked (front ++ x ∷ []) (found ++ x ∷ [])
  picked_more front found x before is m = (
    λ h. elim (Contains-push_cases found x m h) as (λ _. Contains (front ++ x ∷ []) m × P m) [
      | inl a ↦ let r = (before m).0 a in (Contains-append_left front (x ∷ []) m r.0, r.1)
      | inr e ↦ (last_in front x m e, subst P e is)
    ],
    λ h. elim (Contains-push_cases front x m h.0) as (λ _. Contains (found ++ x ∷ []) m) [
      | inl a ↦ Contains-append_left found (x ∷ []) m ((before m).1 (a, h.1))
      | inr e ↦ last_in found x m e
    ],
  )

  pub picked_less : (front found : List (Bound Mark)) (x : Bound Mark) → ArePicked front found → (P x → ⊥) → ArePicked (front ++ x ∷ []) found
  picked_less front found x before none m = (
    λ h. let r = (before m).0 h in (Contains-append_left front (x ∷ []) m r.0, r.1),
    λ h. elim (Contains-push_cases front x m h.0) as (λ _. Contains found m) [
      | inl a ↦ (before m).1 (a, h.1)
      | inr e ↦ absurd (none (subst P (sym e) h.1))
    ],
  )

-- a step of a list that is gone through
pub picked_step : (P : Bound Mark → Type 0) (marks found next : List (Bound Mark)) (i : ℕ) (d : Bound Mark) → i < length marks → ArePicked P (take i marks) found → P (get_or marks i d) → next ≡ found ++ get_or marks i d ∷ [] → ArePicked P (take (i + 1) marks) next
picked_step P marks found next i d within before is e =
    subst (λ front. ArePicked P front next) (sym (take_more marks i d within)) (subst (λ fs. ArePicked P (take i marks ++ get_or marks i d ∷ []) fs) (sym e) (picked_more P (take i marks) found (get_or marks i d) before is))

pub picked_skip : (P : Bound Mark → Type 0) (marks found next : List (Bound Mark)) (i : ℕ) (d : Bound Mark) → i < length marks → ArePicked P (take i marks) found → (P (get_or marks i d) → ⊥) → next ≡ found → ArePicked P (take (i + 1) marks) next
picked_skip P marks found next i d within before none e =
    subst (λ front. ArePicked P front next) (sym (take_more marks i d within)) (subst (λ fs. ArePicked P (take i marks ++ get_or marks i d ∷ []) fs) (sym e) (picked_less P (take i marks) found (get_or marks i d) before none))
