-- Words that have what insertions ask.
use Rattle.std.proofs.Common.{◌≡◌, ◌↔◌, ℕ, ◌+◌, ◌<◌, ◌≤◌, Bool, true, false, List, [], ◌∷◌, ◌++◌, Some, length, sym, subst, ◌∙◌, inl, inr, arith}
use Rattle.std.specs.List.{Contains, slice_get}
use Rattle.std.proofs.lemmas.Bool.{cases_lt}
use Rattle.std.proofs.lemmas.Option.{slice_get_within}
use Rattle.std.proofs.lemmas.List.Elements.{All-tail}
use Rattle.fsm_base.specs.declared.letters.Bound.{Bound}
use Rattle.fsm_base.specs.declared.letters.Bound.TheVariants.{Inner}
use Rattle.regex_ast.specs.declared.expr.Side.{Side}
use Rattle.word_relations.specs.Words.{IsOver}
use Rattle.word_relations.proofs.Places.{same_at}
use Rattle.fsa.specs.Automaton.{Automaton}
use Rattle.fsa.specs.Language as language
use Rattle.fsa.specs.Complete.{Complete, Accepts}
use Rattle.lang_algebra.specs.Languages.{IsLang}
use Rattle.lang_algebra.proofs.Made.{IsLang-same}
use Rattle.replace_words.specs.declared.marks.Mark.{Mark}
use Rattle.replace_words.specs.declared.marks.Mark.TheVariants.{Open, Close}
use Rattle.replace_words.specs.Filled.{LeavesNoGap, NoTwo}
use Rattle.replace_rules.proofs.Sets.{accepted_by, accepted_letters, over_front, over_back}
use Rattle.replace_rules.specs.declared.rules.LangContext.{LangContext}
use Rattle.replace_insertions.specs.Marked.{LeftAt, RightAt, IsBetween, IsAskedAt, AreAskedIn}

-- no gap is left where the words are intersected with those that leave none
pub gaps_left : (words left right whole last : Complete (Bound Mark)) → left.letters ≡ words.letters → IsLang left.letters (λ w. IsOver left.letters w × LeavesNoGap (Accepts left) (Accepts right) w) whole
    → IsLang words.letters (λ w. Accepts words w × Accepts whole w) last → IsLang words.letters (λ w. Accepts words w × LeavesNoGap (Accepts left) (Accepts right) w) last
gaps_left words left right whole last same whole_is last_is =
    IsLang-same words.letters (λ w. Accepts words w × Accepts whole w) (λ w. Accepts words w × LeavesNoGap (Accepts left) (Accepts right) w) last
    (λ w. (λ h. (h.0, ((whole_is.words w).0 h.1).1), λ h. (h.0, (whole_is.words w).1 (accepted_by words left same w h.0, h.1)))) last_is

-- what is asked at a context
module _ (marks : List (Bound Mark)) (words left right kept : Complete (Bound Mark)) (same : marks ≡ words.letters) (optional : Bool) (side : Side) (k : ℕ) (p : LangContext)
    (left_is : IsLang marks (λ x. IsOver marks x × LeftAt side p x) left) (right_is : IsLang marks (λ z. IsOver marks z × RightAt side p z) right)
    (kept_is : IsLang words.letters (λ w. Accepts words w × IsBetween (Accepts left) (Accepts right) k w) kept) where
  over_words : (w : List (Bound Mark)) → Accepts words w → IsOver marks w
  over_words w h = subst (λ ls. IsOver ls w) (sym same) (accepted_letters words h)

  between_down : (w : List (Bound Mark)) → IsBetween (Accepts left) (Accepts right) k w → IsBetween (LeftAt side p) (RightAt side p) k w
  between_down w h = (λ x y is. ((left_is.words x).0 (h.0 x y is)).1, λ x y is. ((right_is.words y).0 (h.1 x y is)).1)

  between_up : (w : List (Bound Mark)) → IsOver marks w → IsBetween (LeftAt side p) (RightAt side p) k w → IsBetween (Accepts left) (Accepts right) k w
  between_up w over h = (
    λ x y is. (left_is.words x).1 (over_front marks x (Inner (Open k) ∷ y) (subst (IsOver marks) is over), h.0 x y is),
    λ x y is. (right_is.words y).1 (All-tail (Contains marks) (Inner (Close k)) y (over_back marks x (Inner (Close k) ∷ y) (subst (IsOver marks) is over)), h.1 x y is),
  )

  gap_down : (w : List (Bound Mark)) → IsOver marks w → LeavesNoGap (Accepts left) (Accepts right) w → LeavesNoGap (LeftAt side p) (RightAt side p) w
  gap_down w over h x m n z is free_m free_n l r =
      let parts : IsOver marks ((x ++ m ∷ []) ++ n ∷ z) = subst (IsOver marks) is over in
      h x m n z is free_m free_n ((left_is.words (x ++ m ∷ [])).1 (over_front marks (x ++ m ∷ []) (n ∷ z) parts, l)) ((right_is.words (n ∷ z)).1 (over_back marks (x ++ m ∷ []) (n ∷ z) parts, r))

  gap_up : (w : List (Bound Mark)) → LeavesNoGap (LeftAt side p) (RightAt side p) w → LeavesNoGap (Accepts left) (Accepts right) w
  gap_up w h x m n z is free_m free_n l r = h x m n z is free_m free_n ((left_is.words (x ++ m ∷ [])).0 l).1 ((right_is.words (n ∷ z)).0 r).1

  pub asked_optional : optional ≡ true → IsLang words.letters (λ w. Accepts words w × IsAskedAt side optional k p w) kept
  asked_optional is =
      IsLang-same words.letters (λ w. Accepts words w × IsBetween (Accepts left) (Accepts right) k w) (λ w. Accepts words w × IsAskedAt side optional k p w) kept
      (λ w. (
        λ h. (h.0, (between_down w h.1, λ must. absurd (let e : true ≡ false = sym is ∙ must in cc))),
        λ h. (h.0, between_up w (over_words w h.0) h.1.0),
      ))
      kept_is

  pub asked_obligatory : (last : Complete (Bound Mark)) → IsLang kept.letters (λ w. Accepts kept w × LeavesNoGap (Accepts left) (Accepts right) w) last → optional ≡ false → IsLang words.letters (λ w. Accepts words w × IsAskedAt side optional k p w) last
  asked_obligatory last last_is is =
      IsLang-same words.letters (λ w. Accepts kept w × LeavesNoGap (Accepts left) (Accepts right) w) (λ w. Accepts words w × IsAskedAt side optional k p w) last
      (λ w. (
        λ h. let t = (kept_is.words w).0 h.0 in (t.0, (between_down w t.1, λ must. gap_down w (over_words w t.0) h.1)),
        λ h. ((kept_is.words w).1 (h.0, between_up w (over_words w h.0) h.1.0), gap_up w (h.1.1 is)),
      ))
      (subst (λ ls. IsLang ls (λ w. Accepts kept w × LeavesNoGap (Accepts left) (Accepts right) w) last) kept_is.over last_is)

-- what is asked, put together first
pub asked_kept : (marks : List (Bound Mark)) (Q : List (Bound Mark) → Type 0) (any : Automaton (Bound Mark)) (words all asked last : Complete (Bound Mark)) → marks ≡ words.letters → ((w : List (Bound Mark)) → language.Accepts any w ↔ IsOver marks w) → IsLang marks (λ w. IsOver marks w × language.Accepts any w) all
    → IsLang all.letters (λ w. Accepts all w × Q w) asked → IsLang words.letters (λ w. Accepts words w × Accepts asked w) last → IsLang words.letters (λ w. Accepts words w × Q w) last
asked_kept marks Q any words all asked last same any_is all_is asked_is last_is =
    IsLang-same words.letters (λ w. Accepts words w × Accepts asked w) (λ w. Accepts words w × Q w) last
    (λ w. (
      λ h. (h.0, ((asked_is.words w).0 h.1).1),
      λ h.
          let over : IsOver marks w = subst (λ ls. IsOver ls w) (sym same) (accepted_letters words h.0) in
          (h.0, (asked_is.words w).1 ((all_is.words w).1 (over, (any_is w).1 over), h.1)),
    ))
    last_is

-- context after context, of what each asks
module _ (side : Side) (optional : Bool) (contexts : List LangContext) (marks : List (Bound Mark)) (words : Automaton (Bound Mark)) where
  abbrev pub AreAskedBelow : ℕ → List (Bound Mark) → Type 0
  AreAskedBelow i w = ((IsOver marks w × language.Accepts words w) × NoTwo w) × ((k : ℕ) (p : LangContext) → k < i → slice_get contexts k ≡ Some p → IsAskedAt side optional k p w)

  -- well-formed words in which no insertion stands directly behind another
  pub asked_none : (well once kept : Complete (Bound Mark)) → IsLang marks (λ w. IsOver marks w × language.Accepts words w) well → IsLang marks (λ w. IsOver marks w × NoTwo w) once → IsLang well.letters (λ w. Accepts well w × Accepts once w) kept → IsLang marks (AreAskedBelow 0) kept
  asked_none well once kept well_is once_is kept_is =
      IsLang-same marks (λ w. Accepts well w × Accepts once w) (AreAskedBelow 0) kept
      (λ w. (
        λ h. (((well_is.words w).0 h.0, ((once_is.words w).0 h.1).1), λ k p l at. absurd (omega (arith, l))),
        λ h. ((well_is.words w).1 h.0.0, (once_is.words w).1 (h.0.0.0, h.0.1)),
      ))
      (subst (λ ls. IsLang ls (λ w. Accepts well w × Accepts once w) kept) well_is.over kept_is)

  pub asked_more : (i : ℕ) (p : LangContext) (old new : Complete (Bound Mark)) → slice_get contexts i ≡ Some p → IsLang marks (AreAskedBelow i) old → IsLang old.letters (λ w. Accepts old w × IsAskedAt side optional i p w) new → IsLang marks (AreAskedBelow (i + 1)) new
  asked_more i p old new at before is =
      IsLang-same marks (λ w. Accepts old w × IsAskedAt side optional i p w) (AreAskedBelow (i + 1)) new
      (λ w. (
        λ h. let r = (before.words w).0 h.0 in (r.0, λ k q l there. more w k q r.1 h.1 l there),
        λ h. ((before.words w).1 (h.0, λ k q l there. h.1 k q (omega (arith, l)) there), h.1 i p (omega arith) at),
      ))
      (subst (λ ls. IsLang ls (λ w. Accepts old w × IsAskedAt side optional i p w) new) before.over is)
    where
      more : (w : List (Bound Mark)) (k : ℕ) (q : LangContext) → ((k : ℕ) (p : LangContext) → k < i → slice_get contexts k ≡ Some p → IsAskedAt side optional k p w) → IsAskedAt side optional i p w → k < i + 1 → slice_get contexts k ≡ Some q → IsAskedAt side optional k q w
      more w k q below here l there = elim (cases_lt k i) as (λ _. IsAskedAt side optional k q w) [
        | inl less ↦ below k q less there
        | inr greater ↦
            let equal : k ≡ i = omega (arith, l, greater) in
            let moved : slice_get contexts i ≡ Some q = subst (λ j. slice_get contexts j ≡ Some q) equal there in
            subst (λ j. IsAskedAt side optional j q w) (sym equal) (subst (λ x. IsAskedAt side optional i x w) (same_at contexts i p q at moved) here)
      ]

  pub asked_all : (i : ℕ) (lang : Complete (Bound Mark)) → length contexts ≤ i → IsLang marks (AreAskedBelow i) lang → IsLang marks (λ w. (IsOver marks w × language.Accepts words w) × AreAskedIn side optional contexts w) lang
  asked_all i lang past is =
      IsLang-same marks (AreAskedBelow i) (λ w. (IsOver marks w × language.Accepts words w) × AreAskedIn side optional contexts w) lang
      (λ w. (
        λ h. (h.0.0, (h.0.1, λ k p at. let l = slice_get_within contexts k p at in h.1 k p (omega (arith, l, past)) at)),
        λ h. ((h.0, h.1.0), λ k p l at. h.1.1 k p at),
      ))
      is
