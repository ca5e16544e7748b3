-- Words that keep what rules ask of a place.
use Rattle.std.proofs.Common.{◌≡◌, ◌↔◌, ℕ, ◌+◌, ◌<◌, ◌≤◌, Bool, true, false, List, ◌∷◌, ◌++◌, Some, length, sym, subst, ◌∙◌, inl, inr, arith}
use Rattle.std.specs.List.{Contains, slice_get}
use Rattle.std.proofs.lemmas.Bool.{cases_lt}
use Rattle.std.proofs.lemmas.Option.{slice_get_within}
use Rattle.std.proofs.lemmas.List.Elements.{All-tail}
use Rattle.fsm_base.specs.declared.letters.Sym.{Sym}
use Rattle.fsm_base.specs.declared.letters.Bound.{Bound}
use Rattle.fsm_base.specs.declared.letters.Bound.TheVariants.{Inner}
use Rattle.word_relations.specs.Words.{IsOver}
use Rattle.word_relations.proofs.Places.{same_at}
use Rattle.fsa.specs.Automaton.{Automaton}
use Rattle.fsa.specs.Language as language
use Rattle.fsa.specs.Complete.{Complete, Accepts}
use Rattle.lang_algebra.specs.Languages.{IsLang}
use Rattle.lang_algebra.proofs.Made.{IsLang-same}
use Rattle.replace_words.specs.declared.marks.Mark.{Mark}
use Rattle.replace_words.specs.declared.marks.Mark.TheVariants.{Open, Close}
use Rattle.replace_words.specs.Marked.{copies, KeepsLeft, KeepsRight, LeavesNone, LeftHolds, RightHolds, IsKept}
use Rattle.replace_rules.proofs.Sets.{accepted_by, accepted_letters, over_front, over_back}
use Rattle.replace_rules.specs.declared.rules.LangMap.{LangMap}
use Rattle.replace_rules.specs.Places.{Place, HasCentreIn, rules_by}

pub centres_left : (maps : List LangMap) (words left right whole last : Complete (Bound Mark)) (centre : Automaton Sym) → left.letters ≡ words.letters → ((c : List Sym) → language.Accepts centre c ↔ HasCentreIn maps c)
    → IsLang left.letters (λ w. IsOver left.letters w × LeavesNone (language.Accepts centre) (Accepts left) (Accepts right) w) whole → IsLang words.letters (λ w. Accepts words w × Accepts whole w) last
    → IsLang words.letters (λ w. Accepts words w × LeavesNone (HasCentreIn maps) (Accepts left) (Accepts right) w) last
centres_left maps words left right whole last centre same centre_is whole_is last_is =
    IsLang-same words.letters (λ w. Accepts words w × Accepts whole w) (λ w. Accepts words w × LeavesNone (HasCentreIn maps) (Accepts left) (Accepts right) w) last
    (λ w. (
      λ h. (h.0, λ x c z e is l r. ((whole_is.words w).0 h.1).1 x c z e ((centre_is c).1 is) l r),
      λ h. (h.0, (whole_is.words w).1 (accepted_by words left same w h.0, λ x c z e is l r. h.1 x c z e ((centre_is c).0 is) l r)),
    ))
    last_is

module _ (marks : List (Bound Mark)) (words left right kept : Complete (Bound Mark)) (same : marks ≡ words.letters) (optional : Bool) (k : ℕ) (p : Place)
    (left_is : IsLang marks (λ x. IsOver marks x × LeftHolds rules_by p x) left) (right_is : IsLang marks (λ z. IsOver marks z × RightHolds rules_by p z) right)
    (kept_is : IsLang words.letters (λ w. Accepts words w × (KeepsLeft (Accepts left) k w × KeepsRight (Accepts right) k w)) kept) where
  over_words : (w : List (Bound Mark)) → Accepts words w → IsOver marks w
  over_words w h = subst (λ ls. IsOver ls w) (sym same) (accepted_letters words h)

  between_down : (w : List (Bound Mark)) → KeepsLeft (Accepts left) k w × KeepsRight (Accepts right) k w → KeepsLeft (LeftHolds rules_by p) k w × KeepsRight (RightHolds rules_by p) k w
  between_down w h = (λ x y is. ((left_is.words x).0 (h.0 x y is)).1, λ x y is. ((right_is.words y).0 (h.1 x y is)).1)

  between_up : (w : List (Bound Mark)) → IsOver marks w → KeepsLeft (LeftHolds rules_by p) k w → KeepsRight (RightHolds rules_by p) k w → KeepsLeft (Accepts left) k w × KeepsRight (Accepts right) k w
  between_up w over keeps_left keeps_right = (
    λ x y is. (left_is.words x).1 (over_front marks x (Inner (Open k) ∷ y) (subst (IsOver marks) is over), keeps_left x y is),
    λ x y is. (right_is.words y).1 (All-tail (Contains marks) (Inner (Close k)) y (over_back marks x (Inner (Close k) ∷ y) (subst (IsOver marks) is over)), keeps_right x y is),
  )

  pub kept_optional : optional ≡ true → IsLang words.letters (λ w. Accepts words w × IsKept rules_by optional k p w) kept
  kept_optional is =
      IsLang-same words.letters (λ w. Accepts words w × (KeepsLeft (Accepts left) k w × KeepsRight (Accepts right) k w)) (λ w. Accepts words w × IsKept rules_by optional k p w) kept
      (λ w. (
        λ h. let r = between_down w h.1 in (h.0, record { left = r.0; right = r.1; centre = λ must. absurd (let e : true ≡ false = sym is ∙ must in cc) }),
        λ h. (h.0, between_up w (over_words w h.0) h.1.left h.1.right),
      ))
      kept_is

  none_down : (w : List (Bound Mark)) → IsOver marks w → LeavesNone (HasCentreIn p.maps) (Accepts left) (Accepts right) w → LeavesNone (HasCentreIn p.maps) (LeftHolds rules_by p) (RightHolds rules_by p) w
  none_down w over h x c z is in_centre l r =
      let parts : IsOver marks (x ++ (copies c ++ z)) = subst (IsOver marks) is over in
      h x c z is in_centre ((left_is.words x).1 (over_front marks x (copies c ++ z) parts, l)) ((right_is.words z).1 (over_back marks (copies c) z (over_back marks x (copies c ++ z) parts), r))

  none_up : (w : List (Bound Mark)) → LeavesNone (HasCentreIn p.maps) (LeftHolds rules_by p) (RightHolds rules_by p) w → LeavesNone (HasCentreIn p.maps) (Accepts left) (Accepts right) w
  none_up w h x c z is in_centre l r = h x c z is in_centre ((left_is.words x).0 l).1 ((right_is.words z).0 r).1

  pub kept_obligatory : (last : Complete (Bound Mark)) → IsLang kept.letters (λ w. Accepts kept w × LeavesNone (HasCentreIn p.maps) (Accepts left) (Accepts right) w) last → optional ≡ false → IsLang words.letters (λ w. Accepts words w × IsKept rules_by optional k p w) last
  kept_obligatory last last_is is =
      IsLang-same words.letters (λ w. Accepts kept w × LeavesNone (HasCentreIn p.maps) (Accepts left) (Accepts right) w) (λ w. Accepts words w × IsKept rules_by optional k p w) last
      (λ w. (
        λ h.
            let t = (kept_is.words w).0 h.0 in
            let r = between_down w t.1 in
            (t.0, record { left = r.0; right = r.1; centre = λ must. none_down w (over_words w t.0) h.1 }),
        λ h. ((kept_is.words w).1 (h.0, between_up w (over_words w h.0) h.1.left h.1.right), none_up w (h.1.centre is)),
      ))
      (subst (λ ls. IsLang ls (λ w. Accepts kept w × LeavesNone (HasCentreIn p.maps) (Accepts left) (Accepts right) w) last) kept_is.over last_is)

-- place after place
abbrev pub KeepsBelow : Bool → List Place → ℕ → List (Bound Mark) → Type 0
KeepsBelow optional places i w = (k : ℕ) (p : Place) → k < i → slice_get places k ≡ Some p → IsKept rules_by optional k p w

module _ (optional : Bool) (places : List Place) (letters : List (Bound Mark)) (P : List (Bound Mark) → Type 0) where
  pub kept_none : (lang : Complete (Bound Mark)) → IsLang letters P lang → IsLang letters (λ w. P w × KeepsBelow optional places 0 w) lang
  kept_none lang is = IsLang-same letters P (λ w. P w × KeepsBelow optional places 0 w) lang (λ w. (λ h. (h, λ k p l at. absurd (omega (arith, l))), λ h. h.0)) is

  pub kept_more : (i : ℕ) (p : Place) (old new : Complete (Bound Mark)) → slice_get places i ≡ Some p → IsLang letters (λ w. P w × KeepsBelow optional places i w) old → IsLang old.letters (λ w. Accepts old w × IsKept rules_by optional i p w) new
      → IsLang letters (λ w. P w × KeepsBelow optional places (i + 1) w) new
  kept_more i p old new at before is =
      IsLang-same letters (λ w. Accepts old w × IsKept rules_by optional i p w) (λ w. P w × KeepsBelow optional places (i + 1) w) new
      (λ w. (
        λ h. let r = (before.words w).0 h.0 in (r.0, λ k q l there. more w k q r.1 h.1 l there),
        λ h. ((before.words w).1 (h.0, λ k q l there. h.1 k q (omega (arith, l)) there), h.1 i p (omega arith) at),
      ))
      (subst (λ ls. IsLang ls (λ w. Accepts old w × IsKept rules_by optional i p w) new) before.over is)
    where
      more : (w : List (Bound Mark)) (k : ℕ) (q : Place) → KeepsBelow optional places i w → IsKept rules_by optional i p w → k < i + 1 → slice_get places k ≡ Some q → IsKept rules_by optional k q w
      more w k q below here l there = elim (cases_lt k i) as (λ _. IsKept rules_by optional k q w) [
        | inl less ↦ below k q less there
        | inr greater ↦
            let same : k ≡ i = omega (arith, l, greater) in
            let moved : slice_get places i ≡ Some q = subst (λ j. slice_get places j ≡ Some q) same there in
            subst (λ j. IsKept rules_by optional j q w) (sym same) (subst (λ x. IsKept rules_by optional i x w) (same_at places i p q at moved) here)
      ]

  pub kept_all : (i : ℕ) (lang : Complete (Bound Mark)) → length places ≤ i → IsLang letters (λ w. P w × KeepsBelow optional places i w) lang → IsLang letters (λ w. P w × ((k : ℕ) (p : Place) → slice_get places k ≡ Some p → IsKept rules_by optional k p w)) lang
  kept_all i lang past is =
      IsLang-same letters (λ w. P w × KeepsBelow optional places i w) (λ w. P w × ((k : ℕ) (p : Place) → slice_get places k ≡ Some p → IsKept rules_by optional k p w)) lang
      (λ w. (
        λ h. (h.0, λ k p at. let l = slice_get_within places k p at in h.1 k p (omega (arith, l, past)) at),
        λ h. (h.0, λ k p l at. h.1 k p at),
      ))
      is
