-- Words of marks that keep what directed rules ask.
use Rattle.std.proofs.Common.{◌≡◌, ℕ, ◌+◌, ◌<◌, ◌≤◌, List, ◌∷◌, ◌++◌, Some, length, refl, sym, ap, subst, ◌∙◌, inl, inr, arith}
use Rattle.std.specs.List.{Contains, slice_get}
use Rattle.std.proofs.lemmas.Bool.{cases_lt}
use Rattle.std.proofs.lemmas.Option.{slice_get_within}
use Rattle.std.proofs.lemmas.List.Elements.{All-tail}
use Rattle.fsm_base.specs.declared.letters.Bound.{Bound}
use Rattle.fsm_base.specs.declared.letters.Bound.TheVariants.{Inner}
use Rattle.word_relations.specs.Words.{IsOver, IsConcatenation}
use Rattle.word_relations.proofs.Places.{same_at}
use Rattle.fsa.specs.Complete.{Complete, Accepts}
use Rattle.lang_algebra.specs.Languages.{IsLang}
use Rattle.lang_algebra.proofs.Made.{IsLang-same}
use Rattle.replace_words.specs.declared.marks.Mark.{Mark}
use Rattle.replace_words.specs.declared.marks.Mark.TheVariants.{Open, Close}
use Rattle.replace_words.specs.Marked.{KeepsLeft, KeepsRight}
use Rattle.replace_rules.proofs.Sets.{accepted_letters, over_front, over_back}
use Rattle.replace_rules.specs.declared.rules.LangMap.{LangMap}
use Rattle.replace_rules.specs.declared.rules.LangContext.{LangContext}
use Rattle.directed_words.specs.declared.kinds.MarkKind.TheVariants.{Copied, Inside}
use Rattle.directed_words.specs.declared.ways.Length.{Length}
use Rattle.directed_words.specs.declared.ways.Length.TheVariants.{Longest, Shortest}
use Rattle.directed_words.specs.Kinds.{BeginsWith}
use Rattle.directed_words.specs.Marked.{NoneBetween}
use Rattle.replace_directed.specs.Marked.{LeftAt, RightAt, IsCentre, IsOther, NoneOther, IsKeptAt, IsKeptBy}

-- where none stands between words of some sets, none does between words of fewer
pub none_over : (marks : List (Bound Mark)) (P S Q P' S' Q' : List (Bound Mark) → Type 0) → ((v : List (Bound Mark)) → IsOver marks v → P' v → P v) → ((v : List (Bound Mark)) → IsOver marks v → S' v → S v) → ((v : List (Bound Mark)) → IsOver marks v → Q' v → Q v)
    → (w : List (Bound Mark)) → IsOver marks w → NoneBetween P S Q w → NoneBetween P' S' Q' w
none_over marks P S Q P' S' Q' fp fs fq w over none x m z e p s q =
    let parts : IsOver marks (x ++ (m ++ z)) = subst (IsOver marks) e over in
    let back : IsOver marks (m ++ z) = over_back marks x (m ++ z) parts in
    none x m z e (fp x (over_front marks x (m ++ z) parts) p) (fs m (over_front marks m z back) s) (fq z (over_back marks m z back) q)

other_over : (size : Length) (marks : List (Bound Mark)) (P S Q P' S' Q' : List (Bound Mark) → Type 0) → ((v : List (Bound Mark)) → IsOver marks v → P' v → P v) → ((v : List (Bound Mark)) → IsOver marks v → S' v → S v) → ((v : List (Bound Mark)) → IsOver marks v → Q' v → Q v)
    → (w : List (Bound Mark)) → IsOver marks w → NoneOther size P S Q w → NoneOther size P' S' Q' w
other_over Longest marks P S Q P' S' Q' fp fs fq w over none = none_over marks P S Q P' S' Q' fp fs fq w over none
other_over Shortest marks P S Q P' S' Q' fp fs fq w over none =
    none_over marks P S (λ z. Q z × BeginsWith Inside z) P' S' (λ z. Q' z × BeginsWith Inside z) fp fs (λ v o h. (fq v o h.0, h.1)) w over none

-- the words in which none stands between
pub none_words : (left middle right rest broken kept : Complete (Bound Mark)) → IsLang middle.letters (IsConcatenation (Accepts middle) (Accepts right)) rest → IsLang left.letters (IsConcatenation (Accepts left) (Accepts rest)) broken → IsLang broken.letters (λ w. IsOver broken.letters w × ¬ Accepts broken w) kept
    → IsLang left.letters (λ w. IsOver left.letters w × NoneBetween (Accepts left) (Accepts middle) (Accepts right) w) kept
none_words left middle right rest broken kept rest_is broken_is kept_is =
    IsLang-same left.letters (λ w. IsOver left.letters w × ¬ Accepts broken w) (λ w. IsOver left.letters w × NoneBetween (Accepts left) (Accepts middle) (Accepts right) w) kept
    (λ w. (
      λ h. (h.0, λ x m z e p s q. h.1 ((broken_is.words w).1 (x, m ++ z, e, p, (rest_is.words (m ++ z)).1 (m, z, refl, s, q)))),
      λ h. (h.0, λ b. let r = (broken_is.words w).0 b in let t = (rest_is.words r.1).0 r.4 in h.1 r.0 t.0 t.1 (r.2 ∙ ap (λ v. r.0 ++ v) t.2) r.3 t.3 t.4),
    ))
    (subst (λ ls. IsLang ls (λ w. IsOver ls w × ¬ Accepts broken w) kept) broken_is.over kept_is)

pub shorter_words : (left others right inside kept : Complete (Bound Mark)) → IsLang right.letters (λ w. Accepts right w × BeginsWith Inside w) inside → IsLang left.letters (λ w. IsOver left.letters w × NoneBetween (Accepts left) (Accepts others) (Accepts inside) w) kept
    → IsLang left.letters (λ w. IsOver left.letters w × NoneOther Shortest (Accepts left) (Accepts others) (Accepts right) w) kept
shorter_words left others right inside kept inside_is kept_is =
    IsLang-same left.letters (λ w. IsOver left.letters w × NoneBetween (Accepts left) (Accepts others) (Accepts inside) w) (λ w. IsOver left.letters w × NoneOther Shortest (Accepts left) (Accepts others) (Accepts right) w) kept
    (λ w. (λ h. (h.0, λ x m z e p s q. h.1 x m z e p s ((inside_is.words z).1 q)), λ h. (h.0, λ x m z e p s q. h.1 x m z e p s ((inside_is.words z).0 q)))) kept_is

-- what is asked at a context
module _ (marks : List (Bound Mark)) (words left right : Complete (Bound Mark)) (same : marks ≡ words.letters) (k : ℕ) (p : LangContext)
    (left_is : IsLang marks (λ x. IsOver marks x × LeftAt p x) left) (right_is : IsLang marks (λ z. IsOver marks z × RightAt p z) right) where
  between_down : (w : List (Bound Mark)) → KeepsLeft (Accepts left) k w × KeepsRight (Accepts right) k w → KeepsLeft (LeftAt p) k w × KeepsRight (RightAt p) k w
  between_down w h = (λ x y is. ((left_is.words x).0 (h.0 x y is)).1, λ x y is. ((right_is.words y).0 (h.1 x y is)).1)

  between_up : (w : List (Bound Mark)) → IsOver marks w → KeepsLeft (LeftAt p) k w × KeepsRight (RightAt p) k w → KeepsLeft (Accepts left) k w × KeepsRight (Accepts right) k w
  between_up w over h = (
    λ x y is. (left_is.words x).1 (over_front marks x (Inner (Open k) ∷ y) (subst (IsOver marks) is over), h.0 x y is),
    λ x y is. (right_is.words y).1 (All-tail (Contains marks) (Inner (Close k)) y (over_back marks x (Inner (Close k) ∷ y) (subst (IsOver marks) is over)), h.1 x y is),
  )

  pub kept_there : (size : Length) (copies others between uncopied first unbarred last : Complete (Bound Mark)) → IsLang words.letters (λ w. Accepts words w × (KeepsLeft (Accepts left) k w × KeepsRight (Accepts right) k w)) between
      → IsLang left.letters (λ w. IsOver left.letters w × NoneBetween (Accepts left) (Accepts copies) (Accepts right) w) uncopied → IsLang between.letters (λ w. Accepts between w × Accepts uncopied w) first
      → IsLang left.letters (λ w. IsOver left.letters w × NoneOther size (Accepts left) (Accepts others) (Accepts right) w) unbarred → IsLang first.letters (λ w. Accepts first w × Accepts unbarred w) last
      → IsLang words.letters (λ w. Accepts words w × IsKeptAt (Accepts copies) (Accepts others) size k p w) last
  kept_there size copies others between uncopied first unbarred last between_is uncopied_is first_is unbarred_is last_is =
      IsLang-same words.letters (λ w. Accepts first w × Accepts unbarred w) (λ w. Accepts words w × IsKeptAt (Accepts copies) (Accepts others) size k p w) last (λ w. (down w, up w))
      (subst (λ ls. IsLang ls (λ w. Accepts first w × Accepts unbarred w) last) (first_is.over ∙ between_is.over) last_is)
    where
      over_words : (w : List (Bound Mark)) → Accepts words w → IsOver marks w
      over_words w h = subst (λ ls. IsOver ls w) (sym same) (accepted_letters words h)

      over_left : (w : List (Bound Mark)) → IsOver marks w → IsOver left.letters w
      over_left w h = subst (λ ls. IsOver ls w) (sym left_is.over) h

      down : (w : List (Bound Mark)) → Accepts first w × Accepts unbarred w → Accepts words w × IsKeptAt (Accepts copies) (Accepts others) size k p w
      down w h =
          let f = (first_is.words w).0 h.0 in
          let b = (between_is.words w).0 f.0 in
          let over = over_words w b.0 in (
            b.0,
            (
              between_down w b.1,
              none_over marks (Accepts left) (Accepts copies) (Accepts right) (LeftAt p) (Accepts copies) (RightAt p) (λ v o at. (left_is.words v).1 (o, at)) (λ v o at. at) (λ v o at. (right_is.words v).1 (o, at)) w over ((uncopied_is.words w).0 f.1).1,
              other_over size marks (Accepts left) (Accepts others) (Accepts right) (LeftAt p) (Accepts others) (RightAt p) (λ v o at. (left_is.words v).1 (o, at)) (λ v o at. at) (λ v o at. (right_is.words v).1 (o, at)) w over ((unbarred_is.words w).0 h.1).1,
            ),
          )

      up : (w : List (Bound Mark)) → Accepts words w × IsKeptAt (Accepts copies) (Accepts others) size k p w → Accepts first w × Accepts unbarred w
      up w h =
          let over = over_words w h.0 in
          let uncopied' = (uncopied_is.words w).1 (
            over_left w over,
            none_over marks (LeftAt p) (Accepts copies) (RightAt p) (Accepts left) (Accepts copies) (Accepts right) (λ v o at. ((left_is.words v).0 at).1) (λ v o at. at) (λ v o at. ((right_is.words v).0 at).1) w over h.1.1,
          ) in
          let unbarred' = (unbarred_is.words w).1 (
            over_left w over,
            other_over size marks (LeftAt p) (Accepts others) (RightAt p) (Accepts left) (Accepts others) (Accepts right) (λ v o at. ((left_is.words v).0 at).1) (λ v o at. at) (λ v o at. ((right_is.words v).0 at).1) w over h.1.2,
          ) in
          ((first_is.words w).1 ((between_is.words w).1 (h.0, between_up w over h.1.0), uncopied'), unbarred')

-- context after context
module _ (C O : List (Bound Mark) → Type 0) (size : Length) (contexts : List LangContext) (marks : List (Bound Mark)) (Base : List (Bound Mark) → Type 0) where
  abbrev pub AreKeptBelow : ℕ → List (Bound Mark) → Type 0
  AreKeptBelow i w = Base w × ((k : ℕ) (p : LangContext) → k < i → slice_get contexts k ≡ Some p → IsKeptAt C O size k p w)

  pub kept_none : (kept : Complete (Bound Mark)) → IsLang marks Base kept → IsLang marks (AreKeptBelow 0) kept
  kept_none kept kept_is = IsLang-same marks Base (AreKeptBelow 0) kept (λ w. (λ h. (h, λ k p l at. absurd (omega (arith, l))), λ h. h.0)) kept_is

  pub kept_more : (i : ℕ) (p : LangContext) (old new : Complete (Bound Mark)) → slice_get contexts i ≡ Some p → IsLang marks (AreKeptBelow i) old → IsLang old.letters (λ w. Accepts old w × IsKeptAt C O size i p w) new → IsLang marks (AreKeptBelow (i + 1)) new
  kept_more i p old new at before is =
      IsLang-same marks (λ w. Accepts old w × IsKeptAt C O size i p w) (AreKeptBelow (i + 1)) new
      (λ w. (
        λ h. let r = (before.words w).0 h.0 in (r.0, λ k q l there. more w k q r.1 h.1 l there),
        λ h. ((before.words w).1 (h.0, λ k q l there. h.1 k q (omega (arith, l)) there), h.1 i p (omega arith) at),
      ))
      (subst (λ ls. IsLang ls (λ w. Accepts old w × IsKeptAt C O size i p w) new) before.over is)
    where
      more : (w : List (Bound Mark)) (k : ℕ) (q : LangContext) → ((k : ℕ) (p : LangContext) → k < i → slice_get contexts k ≡ Some p → IsKeptAt C O size k p w) → IsKeptAt C O size i p w → k < i + 1 → slice_get contexts k ≡ Some q → IsKeptAt C O size k q w
      more w k q below here l there = elim (cases_lt k i) as (λ _. IsKeptAt C O size k q w) [
        | inl less ↦ below k q less there
        | inr greater ↦
            let equal : k ≡ i = omega (arith, l, greater) in
            let moved : slice_get contexts i ≡ Some q = subst (λ j. slice_get contexts j ≡ Some q) equal there in
            subst (λ j. IsKeptAt C O size j q w) (sym equal) (subst (λ x. IsKeptAt C O size i x w) (same_at contexts i p q at moved) here)
      ]

  pub kept_all : (i : ℕ) (lang : Complete (Bound Mark)) → length contexts ≤ i → IsLang marks (AreKeptBelow i) lang → IsLang marks (λ w. Base w × ((k : ℕ) (p : LangContext) → slice_get contexts k ≡ Some p → IsKeptAt C O size k p w)) lang
  kept_all i lang past is =
      IsLang-same marks (AreKeptBelow i) (λ w. Base w × ((k : ℕ) (p : LangContext) → slice_get contexts k ≡ Some p → IsKeptAt C O size k p w)) lang
      (λ w. (λ h. (h.0, λ k p at. let l = slice_get_within contexts k p at in h.1 k p (omega (arith, l, past)) at), λ h. (h.0, λ k p l at. h.1 k p at))) is

-- where the two sets of matches are told in full
pub kept_full : (size : Length) (maps : List LangMap) (contexts : List LangContext) (marks : List (Bound Mark)) (Base : List (Bound Mark) → Type 0) (centre copies others : Complete (Bound Mark)) → ((w : List (Bound Mark)) → Base w → IsOver marks w)
    → IsLang marks (λ w. IsOver marks w × IsCentre maps w) centre → IsLang centre.letters (λ w. Accepts centre w × BeginsWith Copied w) copies → IsLang centre.letters (λ w. Accepts centre w × IsOther size w) others
    → (lang : Complete (Bound Mark)) → IsLang marks (λ w. Base w × ((k : ℕ) (p : LangContext) → slice_get contexts k ≡ Some p → IsKeptAt (Accepts copies) (Accepts others) size k p w)) lang
    → IsLang marks (λ w. Base w × ((k : ℕ) (p : LangContext) → slice_get contexts k ≡ Some p → IsKeptBy maps size k p w)) lang
kept_full size maps contexts marks Base centre copies others over centre_is copies_is others_is lang is =
    IsLang-same marks (λ w. Base w × ((k : ℕ) (p : LangContext) → slice_get contexts k ≡ Some p → IsKeptAt (Accepts copies) (Accepts others) size k p w)) (λ w. Base w × ((k : ℕ) (p : LangContext) → slice_get contexts k ≡ Some p → IsKeptBy maps size k p w)) lang
    (λ w. (λ h. (h.0, λ k p at. down w (over w h.0) k p (h.1 k p at)), λ h. (h.0, λ k p at. up w (over w h.0) k p (h.1 k p at)))) is
  where
    down : (w : List (Bound Mark)) → IsOver marks w → (k : ℕ) (p : LangContext) → IsKeptAt (Accepts copies) (Accepts others) size k p w → IsKeptBy maps size k p w
    down w o k p h = (
      h.0,
      none_over marks (LeftAt p) (Accepts copies) (RightAt p) (LeftAt p) (λ m. IsCentre maps m × BeginsWith Copied m) (RightAt p) (λ v o at. at) (λ v o at. (copies_is.words v).1 ((centre_is.words v).1 (o, at.0), at.1)) (λ v o at. at) w o h.1,
      other_over size marks (LeftAt p) (Accepts others) (RightAt p) (LeftAt p) (λ m. IsCentre maps m × IsOther size m) (RightAt p) (λ v o at. at) (λ v o at. (others_is.words v).1 ((centre_is.words v).1 (o, at.0), at.1)) (λ v o at. at) w o h.2,
    )

    up : (w : List (Bound Mark)) → IsOver marks w → (k : ℕ) (p : LangContext) → IsKeptBy maps size k p w → IsKeptAt (Accepts copies) (Accepts others) size k p w
    up w o k p h = (
      h.0,
      none_over marks (LeftAt p) (λ m. IsCentre maps m × BeginsWith Copied m) (RightAt p) (LeftAt p) (Accepts copies) (RightAt p) (λ v o at. at) (λ v o at. let r = (copies_is.words v).0 at in (((centre_is.words v).0 r.0).1, r.1)) (λ v o at. at) w o h.1,
      other_over size marks (LeftAt p) (λ m. IsCentre maps m × IsOther size m) (RightAt p) (LeftAt p) (Accepts others) (RightAt p) (λ v o at. at) (λ v o at. let r = (others_is.words v).0 at in (((centre_is.words v).0 r.0).1, r.1)) (λ v o at. at) w o h.2,
    )
