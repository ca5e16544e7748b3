-- Words of marks that keep what insertions ask.
use Rattle.std.proofs.Common.{◌≡◌, ◌↔◌, true, false, ℕ, ◌+◌, ◌<◌, length, take, get_or, List, [], ◌∷◌, ◌++◌, refl, sym, ap, subst, ◌∙◌, inl, inr, append_assoc}
use Rattle.std.specs.List.{Contains}
use Rattle.std.proofs.lemmas.List.Elements.{All-head, All-tail, Contains-append_left, Contains-append_right, Contains-push_cases}
use Rattle.std.proofs.lemmas.List.{take_more}
use Rattle.fsm_base.specs.declared.letters.Bound.{Bound}
use Rattle.fsm_base.specs.declared.letters.Bound.TheVariants.{Edge, Inner}
use Rattle.word_relations.specs.Words.{IsOver, IsConcatenation}
use Rattle.word_relations.specs.Operations.{IsOneLetter}
use Rattle.word_relations.proofs.Members.{Contains-nil_cases, Contains-head}
use Rattle.fsa.specs.Automaton.{Automaton}
use Rattle.fsa.specs.Language as language
use Rattle.fsa.specs.Complete.{Complete, Accepts}
use Rattle.lang_algebra.specs.Languages.{IsLang}
use Rattle.lang_algebra.proofs.Made.{IsLang-same}
use Rattle.replace_words.specs.declared.marks.Mark.{Mark}
use Rattle.replace_words.specs.declared.marks.Mark.TheVariants.{Copy, Up, Low, Same, Open, Close}
use Rattle.replace_words.specs.Filled.{IsFree, NoTwo, LeavesNoGap}
use Rattle.replace_insertions.specs.declared.kinds.MarkKind.{MarkKind}
use Rattle.replace_insertions.specs.declared.kinds.MarkKind.TheVariants.{Free, Opening, Closing}
use Rattle.replace_insertions.specs.Kinds.{is_free, opens, closes, is_of, EndsIn, BeginsWith, MeetsNowhere}
use Rattle.replace_rules.proofs.Sets.{accepted_letters, over_front, over_back}

-- those of a list that have a property, one after another
module _ (P : Bound Mark → Type 0) where
  abbrev pub ArePicked : List (Bound Mark) → List (Bound Mark) → Type 0
  ArePicked marks found = (m : Bound Mark) → Contains found m ↔ (Contains marks m × P m)

  pub picked_none : ArePicked [] []
  picked_none m = (λ h. absurd (Contains-nil_cases m h), λ h. absurd (Contains-nil_cases m h.0))

  last_in : (xs : List (Bound Mark)) (x m : Bound Mark) → x ≡ m → Contains (xs ++ x ∷ []) m
  last_in xs x m e = Contains-append_right xs (x ∷ []) m (subst (Contains (x ∷ [])) e (Contains-head x []))

  pub picked_more : (front found : List (Bound Mark)) (x : Bound Mark) → ArePicked front found → P x → ArePicked (front ++ x ∷ []) (found ++ x ∷ [])
  picked_more front found x before is m = (
    λ h. elim (Contains-push_cases found x m h) as (λ _. Contains (front ++ x ∷ []) m × P m) [
      | inl a ↦ let r = (before m).0 a in (Contains-append_left front (x ∷ []) m r.0, r.1)
      | inr e ↦ (last_in front x m e, subst P e is)
    ],
    λ h. elim (Contains-push_cases front x m h.0) as (λ _. Contains (found ++ x ∷ []) m) [
      | inl a ↦ Contains-append_left found (x ∷ []) m ((before m).1 (a, h.1))
      | inr e ↦ last_in found x m e
    ],
  )

  pub picked_less : (front found : List (Bound Mark)) (x : Bound Mark) → ArePicked front found → (P x → ⊥) → ArePicked (front ++ x ∷ []) found
  picked_less front found x before none m = (
    λ h. let r = (before m).0 h in (Contains-append_left front (x ∷ []) m r.0, r.1),
    λ h. elim (Contains-push_cases front x m h.0) as (λ _. Contains found m) [
      | inl a ↦ (before m).1 (a, h.1)
      | inr e ↦ absurd (none (subst P (sym e) h.1))
    ],
  )

-- words of a language that end, or begin, with a mark of a kind
module _ (lang : Complete (Bound Mark)) (marks : List (Bound Mark)) (same : marks ≡ lang.letters) (kind : MarkKind) (found : List (Bound Mark)) (all one whole : Automaton (Bound Mark)) (part last : Complete (Bound Mark))
    (found_is : (m : Bound Mark) → Contains found m ↔ (Contains marks m × (is_of kind m ≡ true))) (all_is : (w : List (Bound Mark)) → language.Accepts all w ↔ IsOver marks w) (one_is : (w : List (Bound Mark)) → language.Accepts one w ↔ IsOneLetter found w)
    (part_is : IsLang marks (λ w. IsOver marks w × language.Accepts whole w) part) (last_is : IsLang lang.letters (λ w. Accepts lang w × Accepts part w) last) where
  over_marks : (w : List (Bound Mark)) → Accepts lang w → IsOver marks w
  over_marks w h = subst (λ ls. IsOver ls w) (sym same) (accepted_letters lang h)

  one_there : (m : Bound Mark) → Contains marks m → is_of kind m ≡ true → language.Accepts one (m ∷ [])
  one_there m among is = (one_is (m ∷ [])).1 (m, (found_is m).1 (among, is), refl)

  pub ended_words : ((w : List (Bound Mark)) → language.Accepts whole w ↔ IsConcatenation (language.Accepts all) (language.Accepts one) w) → IsLang lang.letters (λ w. Accepts lang w × EndsIn kind w) last
  ended_words whole_is = IsLang-same lang.letters (λ w. Accepts lang w × Accepts part w) (λ w. Accepts lang w × EndsIn kind w) last (λ w. (λ h. (h.0, down w h.1), λ h. (h.0, up w h.0 h.1))) last_is
    where
      down : (w : List (Bound Mark)) → Accepts part w → EndsIn kind w
      down w h =
          let r = (whole_is w).0 ((part_is.words w).0 h).1 in
          let t = (one_is r.1).0 r.4 in
          (r.0, t.0, r.2 ∙ ap (λ z. r.0 ++ z) t.2, ((found_is t.0).0 t.1).1)

      up : (w : List (Bound Mark)) → Accepts lang w → EndsIn kind w → Accepts part w
      up w h (x, m, e, is) =
          let over : IsOver marks (x ++ m ∷ []) = subst (IsOver marks) e (over_marks w h) in
          (part_is.words w).1 (over_marks w h, (whole_is w).1 (x, m ∷ [], e, (all_is x).1 (over_front marks x (m ∷ []) over), one_there m (All-head (Contains marks) m [] (over_back marks x (m ∷ []) over)) is))

  pub begun_words : ((w : List (Bound Mark)) → language.Accepts whole w ↔ IsConcatenation (language.Accepts one) (language.Accepts all) w) → IsLang lang.letters (λ w. Accepts lang w × BeginsWith kind w) last
  begun_words whole_is = IsLang-same lang.letters (λ w. Accepts lang w × Accepts part w) (λ w. Accepts lang w × BeginsWith kind w) last (λ w. (λ h. (h.0, down w h.1), λ h. (h.0, up w h.0 h.1))) last_is
    where
      down : (w : List (Bound Mark)) → Accepts part w → BeginsWith kind w
      down w h =
          let r = (whole_is w).0 ((part_is.words w).0 h).1 in
          let t = (one_is r.0).0 r.3 in
          (t.0, r.1, r.2 ∙ ap (λ z. z ++ r.1) t.2, ((found_is t.0).0 t.1).1)

      up : (w : List (Bound Mark)) → Accepts lang w → BeginsWith kind w → Accepts part w
      up w h (m, z, e, is) =
          let over : IsOver marks (m ∷ z) = subst (IsOver marks) e (over_marks w h) in
          (part_is.words w).1 (over_marks w h, (whole_is w).1 (m ∷ [], z, e, one_there m (All-head (Contains marks) m z over) is, (all_is z).1 (All-tail (Contains marks) m z over)))

-- words that no word of one language and then one of the other is
pub apart_words : (before behind broken kept : Complete (Bound Mark)) → IsLang before.letters (IsConcatenation (Accepts before) (Accepts behind)) broken → IsLang broken.letters (λ w. IsOver broken.letters w × ¬ Accepts broken w) kept
    → IsLang before.letters (λ w. IsOver before.letters w × MeetsNowhere (Accepts before) (Accepts behind) w) kept
apart_words before behind broken kept broken_is kept_is =
    IsLang-same before.letters (λ w. IsOver before.letters w × ¬ Accepts broken w) (λ w. IsOver before.letters w × MeetsNowhere (Accepts before) (Accepts behind) w) kept
    (λ w. (λ h. (h.0, λ x y e p q. h.1 ((broken_is.words w).1 (x, y, e, p, q))), λ h. (h.0, λ b. let r = (broken_is.words w).0 b in h.1 r.0 r.1 r.2 r.3 r.4)))
    (subst (λ ls. IsLang ls (λ w. IsOver ls w × ¬ Accepts broken w) kept) broken_is.over kept_is)

free_there : (m : Bound Mark) → IsFree m → is_free m ≡ true
free_there Edge h = refl
free_there (Inner (Copy s)) h = refl
free_there (Inner (Up s)) h = absurd h
free_there (Inner (Low s)) h = absurd h
free_there (Inner (Same s)) h = absurd h
free_there (Inner (Open k)) h = absurd h
free_there (Inner (Close k)) h = absurd h

free_back : (m : Bound Mark) → is_free m ≡ true → IsFree m
free_back Edge e = tt
free_back (Inner (Copy s)) e = tt
free_back (Inner (Up s)) e = let clash : false ≡ true = e in absurd (cc)
free_back (Inner (Low s)) e = let clash : false ≡ true = e in absurd (cc)
free_back (Inner (Same s)) e = let clash : false ≡ true = e in absurd (cc)
free_back (Inner (Open k)) e = let clash : false ≡ true = e in absurd (cc)
free_back (Inner (Close k)) e = let clash : false ≡ true = e in absurd (cc)

opening_mark : (m : Bound Mark) → opens m ≡ true → (k : ℕ) × (m ≡ Inner (Open k))
opening_mark Edge e = let clash : false ≡ true = e in absurd (cc)
opening_mark (Inner (Copy s)) e = let clash : false ≡ true = e in absurd (cc)
opening_mark (Inner (Up s)) e = let clash : false ≡ true = e in absurd (cc)
opening_mark (Inner (Low s)) e = let clash : false ≡ true = e in absurd (cc)
opening_mark (Inner (Same s)) e = let clash : false ≡ true = e in absurd (cc)
opening_mark (Inner (Open k)) e = (k, refl)
opening_mark (Inner (Close k)) e = let clash : false ≡ true = e in absurd (cc)

closing_mark : (m : Bound Mark) → closes m ≡ true → (k : ℕ) × (m ≡ Inner (Close k))
closing_mark Edge e = let clash : false ≡ true = e in absurd (cc)
closing_mark (Inner (Copy s)) e = let clash : false ≡ true = e in absurd (cc)
closing_mark (Inner (Up s)) e = let clash : false ≡ true = e in absurd (cc)
closing_mark (Inner (Low s)) e = let clash : false ≡ true = e in absurd (cc)
closing_mark (Inner (Same s)) e = let clash : false ≡ true = e in absurd (cc)
closing_mark (Inner (Open k)) e = let clash : false ≡ true = e in absurd (cc)
closing_mark (Inner (Close k)) e = (k, refl)

-- so no gap is left
pub gaps_filled : (left right before behind kept : Complete (Bound Mark)) → IsLang left.letters (λ w. Accepts left w × EndsIn Free w) before → IsLang right.letters (λ w. Accepts right w × BeginsWith Free w) behind
    → IsLang before.letters (λ w. IsOver before.letters w × MeetsNowhere (Accepts before) (Accepts behind) w) kept → IsLang left.letters (λ w. IsOver left.letters w × LeavesNoGap (Accepts left) (Accepts right) w) kept
gaps_filled left right before behind kept before_is behind_is kept_is =
    IsLang-same left.letters (λ w. IsOver left.letters w × MeetsNowhere (Accepts before) (Accepts behind) w) (λ w. IsOver left.letters w × LeavesNoGap (Accepts left) (Accepts right) w) kept
    (λ w. (λ h. (h.0, down w h.1), λ h. (h.0, up w h.1)))
    (subst (λ ls. IsLang ls (λ w. IsOver ls w × MeetsNowhere (Accepts before) (Accepts behind) w) kept) before_is.over kept_is)
  where
    down : (w : List (Bound Mark)) → MeetsNowhere (Accepts before) (Accepts behind) w → LeavesNoGap (Accepts left) (Accepts right) w
    down w h x m n z e free_m free_n p q =
        h (x ++ m ∷ []) (n ∷ z) e ((before_is.words (x ++ m ∷ [])).1 (p, (x, m, refl, free_there m free_m))) ((behind_is.words (n ∷ z)).1 (q, (n, z, refl, free_there n free_n)))

    up : (w : List (Bound Mark)) → LeavesNoGap (Accepts left) (Accepts right) w → MeetsNowhere (Accepts before) (Accepts behind) w
    up w h a b e in_before in_behind =
        let s = (before_is.words a).0 in_before in
        let t = (behind_is.words b).0 in_behind in
        let (x, m, ea, is_m) = s.1 in
        let (n, z, eb, is_n) = t.1 in
        h x m n z (e ∙ ap (λ v. v ++ b) ea ∙ ap (λ v. (x ++ m ∷ []) ++ v) eb) (free_back m is_m) (free_back n is_n) (subst (Accepts left) ea s.0) (subst (Accepts right) eb t.0)

-- and no two replacements stand side by side
pub two_apart : (marks : List (Bound Mark)) (any : Automaton (Bound Mark)) (all before behind kept : Complete (Bound Mark)) → ((w : List (Bound Mark)) → language.Accepts any w ↔ IsOver marks w) → IsLang marks (λ w. IsOver marks w × language.Accepts any w) all
    → IsLang all.letters (λ w. Accepts all w × EndsIn Closing w) before → IsLang all.letters (λ w. Accepts all w × BeginsWith Opening w) behind
    → IsLang before.letters (λ w. IsOver before.letters w × MeetsNowhere (Accepts before) (Accepts behind) w) kept → IsLang marks (λ w. IsOver marks w × NoTwo w) kept
two_apart marks any all before behind kept any_is all_is before_is behind_is kept_is =
    IsLang-same marks (λ w. IsOver marks w × MeetsNowhere (Accepts before) (Accepts behind) w) (λ w. IsOver marks w × NoTwo w) kept
    (λ w. (λ h. (h.0, down w h.0 h.1), λ h. (h.0, up w h.1)))
    (subst (λ ls. IsLang ls (λ w. IsOver ls w × MeetsNowhere (Accepts before) (Accepts behind) w) kept) (before_is.over ∙ all_is.over) kept_is)
  where
    in_all : (w : List (Bound Mark)) → IsOver marks w → Accepts all w
    in_all w over = (all_is.words w).1 (over, (any_is w).1 over)

    down : (w : List (Bound Mark)) → IsOver marks w → MeetsNowhere (Accepts before) (Accepts behind) w → NoTwo w
    down w over h x j k y e =
        let front : List (Bound Mark) = x ++ Inner (Close j) ∷ [] in
        let back : List (Bound Mark) = Inner (Open k) ∷ y in
        let whole : w ≡ front ++ back = e ∙ sym (append_assoc x (Inner (Close j) ∷ []) (Inner (Open k) ∷ y)) in
        let parts : IsOver marks (front ++ back) = subst (IsOver marks) whole over in
        h front back whole ((before_is.words front).1 (in_all front (over_front marks front back parts), (x, Inner (Close j), refl, refl))) ((behind_is.words back).1 (in_all back (over_back marks front back parts), (Inner (Open k), y, refl, refl)))

    up : (w : List (Bound Mark)) → NoTwo w → MeetsNowhere (Accepts before) (Accepts behind) w
    up w h a b e in_before in_behind =
        let s = (before_is.words a).0 in_before in
        let t = (behind_is.words b).0 in_behind in
        let (x, m, ea, is_m) = s.1 in
        let (n, z, eb, is_n) = t.1 in
        let (j, em) = closing_mark m is_m in
        let (k, en) = opening_mark n is_n in
        h x j k z (e ∙ ap (λ v. v ++ b) ea ∙ ap (λ v. (x ++ m ∷ []) ++ v) eb ∙ append_assoc x (m ∷ []) (n ∷ z) ∙ ap (λ g. x ++ g ∷ (n ∷ z)) em ∙ ap (λ g. x ++ Inner (Close j) ∷ (g ∷ z)) en)

-- a step of a list that is gone through
pub picked_step : (P : Bound Mark → Type 0) (marks found next : List (Bound Mark)) (i : ℕ) (d : Bound Mark) → i < length marks → ArePicked P (take i marks) found → P (get_or marks i d) → next ≡ found ++ get_or marks i d ∷ [] → ArePicked P (take (i + 1) marks) next
picked_step P marks found next i d within before is e =
    subst (λ front. ArePicked P front next) (sym (take_more marks i d within)) (subst (λ fs. ArePicked P (take i marks ++ get_or marks i d ∷ []) fs) (sym e) (picked_more P (take i marks) found (get_or marks i d) before is))

pub picked_skip : (P : Bound Mark → Type 0) (marks found next : List (Bound Mark)) (i : ℕ) (d : Bound Mark) → i < length marks → ArePicked P (take i marks) found → (P (get_or marks i d) → ⊥) → next ≡ found → ArePicked P (take (i + 1) marks) next
picked_skip P marks found next i d within before none e =
    subst (λ front. ArePicked P front next) (sym (take_more marks i d within)) (subst (λ fs. ArePicked P (take i marks ++ get_or marks i d ∷ []) fs) (sym e) (picked_less P (take i marks) found (get_or marks i d) before none))
