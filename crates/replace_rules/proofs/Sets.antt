-- Sets of words over some letters: what contexts and rules ask of them.
use Rattle.std.proofs.Common.{◌≡◌, ◌↔◌, ◌⊎◌, ℕ, List, [], ◌∷◌, ◌++◌, Option, Some, map, refl, sym, ap, subst, ◌∙◌, inl, inr}
use Rattle.std.specs.List.{Contains, filter_map}
use Rattle.std.proofs.lemmas.List.Elements.{All-nil, All-cons, All-head, All-tail, filter_map-append}
use Rattle.fsm_base.specs.declared.letters.Sym.{Sym}
use Rattle.fsm_base.specs.declared.letters.Bound.{Bound}
use Rattle.fsm_base.specs.declared.letters.Bound.TheVariants.{Inner}
use Rattle.word_relations.specs.Words.{IsOver, IsConcatenation, IsRepetition, Translates}
use Rattle.word_relations.specs.Operations.{IsOneLetter}
use Rattle.word_relations.proofs.Laws.{IsOver-repetition, IsRepetition-more}
use Rattle.word_relations.proofs.Places.{Contains-from_slice_get}
use Rattle.fsa.specs.Automaton.{Automaton}
use Rattle.fsa.specs.Language as language
use Rattle.fsa.specs.Complete.{Complete, IsComplete, AcceptsFrom, Accepts, stop, read}
use Rattle.fsa_product.proofs.Turned.{accepts_or_not}
use Rattle.lang_algebra.specs.Languages.{IsLang}
use Rattle.lang_algebra.proofs.Made.{IsLang-same}
use Rattle.expr_meaning.specs.Operators.{HasPrefix, HasSuffix}
use Rattle.network_algebra.specs.Renamed.{IsRenamed}
use Rattle.replace_words.specs.declared.marks.Mark.{Mark}
use Rattle.replace_words.specs.Marked.{copies, KeepsLeft, KeepsRight, LeavesNone}
use Rattle.replace_rules.specs.Letters.{table_of, own_table, mark_as}
use Rattle.replace_rules.specs.declared.langs.Written.{Written}
use Rattle.replace_rules.proofs.Tables.{row_cases, translated, filter_split, all_named, names_all}

-- parts of a word over letters are over them
pub over_front : {L : Type 0} (letters xs ys : List L) → IsOver letters (xs ++ ys) → IsOver letters xs
over_front letters [] ys h = All-nil (Contains letters)
over_front letters (x ∷ xs) ys h = All-cons (Contains letters) x xs (All-head (Contains letters) x (xs ++ ys) h) (over_front letters xs ys (All-tail (Contains letters) x (xs ++ ys) h))

pub over_back : {L : Type 0} (letters xs ys : List L) → IsOver letters (xs ++ ys) → IsOver letters ys
over_back letters [] ys h = h
over_back letters (x ∷ xs) ys h = over_back letters xs ys (All-tail (Contains letters) x (xs ++ ys) h)

-- all words over some letters
pub any_words : {L : Type 0} (letters : List L) (one m : Automaton L) → ((w : List L) → language.Accepts one w ↔ IsOneLetter letters w) → ((w : List L) → language.Accepts m w ↔ IsRepetition (language.Accepts one) w) → (w : List L) → language.Accepts m w ↔ IsOver letters w
any_words letters one m one_is m_is w = (
  λ h. (IsOver-repetition letters w).1 (IsRepetition-more (language.Accepts one) (IsOneLetter letters) (λ v. (one_is v).0) w ((m_is w).0 h)),
  λ over. (m_is w).1 (IsRepetition-more (IsOneLetter letters) (language.Accepts one) (λ v. (one_is v).1) w ((IsOver-repetition letters w).0 over)),
)

filter_own : {L : Type 0} (w : List L) → filter_map (λ m. Some m) w ≡ w
filter_own [] = refl
filter_own (x ∷ w) = ap (λ z. x ∷ z) (filter_own w)

-- the words of an automaton over some letters
pub over_words : (letters : List (Bound Mark)) (a kept : Automaton (Bound Mark)) (lang : Complete (Bound Mark)) → ((w : List (Bound Mark)) → language.Accepts kept w ↔ ((v : List (Bound Mark)) × language.Accepts a v × Translates (own_table letters) v w))
    → IsLang letters (language.Accepts kept) lang → IsLang letters (λ w. IsOver letters w × language.Accepts a w) lang
over_words letters a kept lang kept_is is = IsLang-same letters (language.Accepts kept) (λ w. IsOver letters w × language.Accepts a w) lang
    (λ w. (
      λ h. let r = (kept_is w).0 h in let t = down r.0 w r.2 in (subst (IsOver letters) t.1 t.0, subst (language.Accepts a) t.1 r.1),
      λ h. (kept_is w).1 (w, h.1, subst (Translates (own_table letters) w) (filter_own w) (up w h.0)),
    ))
    is
  where
    down : (v w : List (Bound Mark)) → Translates (own_table letters) v w → IsOver letters v × (v ≡ w)
    down v w h = let t = (translated (λ m. Some m) letters (λ z. z ≡ w) v).0 (w, refl, h) in (t.0, sym (filter_own v) ∙ t.1)

    up : (w : List (Bound Mark)) → IsOver letters w → Translates (own_table letters) w (filter_map (λ m. Some m) w)
    up w over =
        let t = (translated (λ m. Some m) letters (λ z. z ≡ filter_map (λ m. Some m) w) w).1 (over, refl) in
        subst (Translates (own_table letters) w) t.1 t.2

-- words in marks
pub marked_words : (written : Written) (a : Automaton Sym) (m : Automaton (Bound Mark)) → ((v : List (Bound Mark)) → language.Accepts m v ↔ IsRenamed (λ s. Some (Inner (mark_as written s))) (language.Accepts a) v)
    → (v : List (Bound Mark)) → language.Accepts m v ↔ ((w : List Sym) × (v ≡ map (λ s. Inner (mark_as written s)) w) × language.Accepts a w)
marked_words written a m is v = (
  λ h. let r = (is v).0 h in (r.0, all_named (λ s. Inner (mark_as written s)) r.0 v r.2, r.1),
  λ (w, e, p). (is v).1 (w, p, names_all (λ s. Inner (mark_as written s)) w ∙ ap (map Some) (sym e)),
)

module _ {M : Type 0} (g : Bound Mark → Option M) (letters : List (Bound Mark)) (context : Complete M) (words : Automaton M) (part all whole : Automaton (Bound Mark))
    (words_are : (w : List M) → language.Accepts words w ↔ Accepts context w)
    (part_is : (v : List (Bound Mark)) → language.Accepts part v ↔ ((w : List M) × language.Accepts words w × Translates (table_of g letters) v w))
    (all_is : (w : List (Bound Mark)) → language.Accepts all w ↔ IsOver letters w) (lang : Complete (Bound Mark)) (is : IsLang letters (λ w. IsOver letters w × language.Accepts whole w) lang) where
  part_down : (v : List (Bound Mark)) → language.Accepts part v → Accepts context (filter_map g v)
  part_down v h = (words_are (filter_map g v)).0 ((translated g letters (language.Accepts words) v).0 ((part_is v).0 h)).1

  part_up : (v : List (Bound Mark)) → IsOver letters v → Accepts context (filter_map g v) → language.Accepts part v
  part_up v over h = (part_is v).1 ((translated g letters (language.Accepts words) v).1 (over, (words_are (filter_map g v)).1 h))

  -- words with an end, or a beginning, in the context
  pub suffix_words : ((w : List (Bound Mark)) → language.Accepts whole w ↔ IsConcatenation (language.Accepts all) (language.Accepts part) w) → IsLang letters (λ x. IsOver letters x × HasSuffix (Accepts context) (filter_map g x)) lang
  suffix_words whole_is = IsLang-same letters (λ w. IsOver letters w × language.Accepts whole w) (λ x. IsOver letters x × HasSuffix (Accepts context) (filter_map g x)) lang
      (λ x. (
        λ h. let r = (whole_is x).0 h.1 in (h.0, (filter_map g r.0, filter_map g r.1, ap (filter_map g) r.2 ∙ filter_map-append g r.0 r.1, part_down r.1 r.4)),
        λ h.
            let r = filter_split g x h.1.0 h.1.1 h.1.2 in
            let over : IsOver letters (r.0 ++ r.1) = subst (IsOver letters) r.2 h.0 in
            (h.0, (whole_is x).1 (r.0, r.1, r.2, (all_is r.0).1 (over_front letters r.0 r.1 over), part_up r.1 (over_back letters r.0 r.1 over) (subst (Accepts context) (sym r.4) h.1.3))),
      ))
      is

  pub prefix_words : ((w : List (Bound Mark)) → language.Accepts whole w ↔ IsConcatenation (language.Accepts part) (language.Accepts all) w) → IsLang letters (λ x. IsOver letters x × HasPrefix (Accepts context) (filter_map g x)) lang
  prefix_words whole_is = IsLang-same letters (λ w. IsOver letters w × language.Accepts whole w) (λ x. IsOver letters x × HasPrefix (Accepts context) (filter_map g x)) lang
      (λ x. (
        λ h. let r = (whole_is x).0 h.1 in (h.0, (filter_map g r.0, filter_map g r.1, ap (filter_map g) r.2 ∙ filter_map-append g r.0 r.1, part_down r.0 r.3)),
        λ h.
            let r = filter_split g x h.1.0 h.1.1 h.1.2 in
            let over : IsOver letters (r.0 ++ r.1) = subst (IsOver letters) r.2 h.0 in
            (h.0, (whole_is x).1 (r.0, r.1, r.2, part_up r.0 (over_front letters r.0 r.1 over) (subst (Accepts context) (sym r.3) h.1.3), (all_is r.1).1 (over_back letters r.0 r.1 over))),
      ))
      is

-- the complement of the words that break a rule is those that keep it
module _ (marks : List (Bound Mark)) (lang others broken kept : Complete (Bound Mark)) (ok : IsComplete lang) (same : marks ≡ lang.letters) (wrong bracket all rest whole : Automaton (Bound Mark)) (m : Bound Mark)
    (others_are : IsLang lang.letters (λ w. IsOver lang.letters w × ¬ Accepts lang w) others) (wrong_is : (w : List (Bound Mark)) → language.Accepts wrong w ↔ Accepts others w)
    (bracket_is : (w : List (Bound Mark)) → language.Accepts bracket w ↔ (w ≡ m ∷ [])) (all_is : (w : List (Bound Mark)) → language.Accepts all w ↔ IsOver marks w)
    (broken_is : IsLang marks (λ w. IsOver marks w × language.Accepts whole w) broken) (kept_is : IsLang broken.letters (λ w. IsOver broken.letters w × ¬ Accepts broken w) kept) where
  kept_over : IsLang lang.letters (λ w. IsOver lang.letters w × ¬ Accepts broken w) kept
  kept_over = subst (λ ls. IsLang ls (λ w. IsOver ls w × ¬ Accepts broken w) kept) (broken_is.over ∙ same) kept_is

  over_marks : (w : List (Bound Mark)) → IsOver lang.letters w → IsOver marks w
  over_marks w h = subst (λ ls. IsOver ls w) (sym same) h

  over_lang : (w : List (Bound Mark)) → IsOver marks w → IsOver lang.letters w
  over_lang w h = subst (λ ls. IsOver ls w) same h

  decide : (w : List (Bound Mark)) → IsOver lang.letters w → Accepts lang w ⊎ language.Accepts wrong w
  decide w over = elim (accepts_or_not lang ok w 0 ok.start over) as (λ _. Accepts lang w ⊎ language.Accepts wrong w) [
    | inl h ↦ inl h
    | inr none ↦ inr ((wrong_is w).1 ((others_are.words w).1 (over, none)))
  ]

  never : (w : List (Bound Mark)) → language.Accepts wrong w → Accepts lang w → ⊥
  never w h is = ((others_are.words w).0 ((wrong_is w).0 h)).1 is

  pub left_kept : ((w : List (Bound Mark)) → language.Accepts rest w ↔ IsConcatenation (language.Accepts bracket) (language.Accepts all) w)
      → ((w : List (Bound Mark)) → language.Accepts whole w ↔ IsConcatenation (language.Accepts wrong) (language.Accepts rest) w)
      → IsLang lang.letters (λ w. IsOver lang.letters w × ((x y : List (Bound Mark)) → w ≡ x ++ m ∷ y → Accepts lang x)) kept
  left_kept rest_is whole_is = IsLang-same lang.letters (λ w. IsOver lang.letters w × ¬ Accepts broken w) (λ w. IsOver lang.letters w × ((x y : List (Bound Mark)) → w ≡ x ++ m ∷ y → Accepts lang x)) kept
      (λ w. (λ h. (h.0, down w h.0 h.1), λ h. (h.0, up w h.1)))
      kept_over
    where
      down : (w : List (Bound Mark)) → IsOver lang.letters w → ¬ Accepts broken w → (x y : List (Bound Mark)) → w ≡ x ++ m ∷ y → Accepts lang x
      down w over none x y e =
          let parts : IsOver lang.letters (x ++ m ∷ y) = subst (IsOver lang.letters) e over in
          elim (decide x (over_front lang.letters x (m ∷ y) parts)) as (λ _. Accepts lang x) [
            | inl h ↦ h
            | inr bad ↦ absurd (none ((broken_is.words w).1 (
              over_marks w over,
              (whole_is w).1 (
                x,
                m ∷ y,
                e,
                bad,
                (rest_is (m ∷ y)).1 (m ∷ [], y, refl, (bracket_is (m ∷ [])).1 refl, (all_is y).1 (over_marks y (All-tail (Contains lang.letters) m y (over_back lang.letters x (m ∷ y) parts)))),
              ),
            )))
          ]

      up : (w : List (Bound Mark)) → ((x y : List (Bound Mark)) → w ≡ x ++ m ∷ y → Accepts lang x) → ¬ Accepts broken w
      up w keeps h =
          let r = (whole_is w).0 ((broken_is.words w).0 h).1 in
          let t = (rest_is r.1).0 r.4 in
          let e : r.1 ≡ m ∷ t.1 = t.2 ∙ ap (λ z. z ++ t.1) ((bracket_is t.0).0 t.3) in
          never r.0 r.3 (keeps r.0 t.1 (r.2 ∙ ap (λ z. r.0 ++ z) e))

  pub right_kept : ((w : List (Bound Mark)) → language.Accepts rest w ↔ IsConcatenation (language.Accepts bracket) (language.Accepts wrong) w)
      → ((w : List (Bound Mark)) → language.Accepts whole w ↔ IsConcatenation (language.Accepts all) (language.Accepts rest) w)
      → IsLang lang.letters (λ w. IsOver lang.letters w × ((x y : List (Bound Mark)) → w ≡ x ++ m ∷ y → Accepts lang y)) kept
  right_kept rest_is whole_is = IsLang-same lang.letters (λ w. IsOver lang.letters w × ¬ Accepts broken w) (λ w. IsOver lang.letters w × ((x y : List (Bound Mark)) → w ≡ x ++ m ∷ y → Accepts lang y)) kept
      (λ w. (λ h. (h.0, down w h.0 h.1), λ h. (h.0, up w h.1)))
      kept_over
    where
      down : (w : List (Bound Mark)) → IsOver lang.letters w → ¬ Accepts broken w → (x y : List (Bound Mark)) → w ≡ x ++ m ∷ y → Accepts lang y
      down w over none x y e =
          let parts : IsOver lang.letters (x ++ m ∷ y) = subst (IsOver lang.letters) e over in
          elim (decide y (All-tail (Contains lang.letters) m y (over_back lang.letters x (m ∷ y) parts))) as (λ _. Accepts lang y) [
            | inl h ↦ h
            | inr bad ↦ absurd (none ((broken_is.words w).1 (
              over_marks w over,
              (whole_is w).1 (
                x,
                m ∷ y,
                e,
                (all_is x).1 (over_marks x (over_front lang.letters x (m ∷ y) parts)),
                (rest_is (m ∷ y)).1 (m ∷ [], y, refl, (bracket_is (m ∷ [])).1 refl, bad),
              ),
            )))
          ]

      up : (w : List (Bound Mark)) → ((x y : List (Bound Mark)) → w ≡ x ++ m ∷ y → Accepts lang y) → ¬ Accepts broken w
      up w keeps h =
          let r = (whole_is w).0 ((broken_is.words w).0 h).1 in
          let t = (rest_is r.1).0 r.4 in
          let e : r.1 ≡ m ∷ t.1 = t.2 ∙ ap (λ z. z ++ t.1) ((bracket_is t.0).0 t.3) in
          never t.1 t.4 (keeps r.0 t.1 (r.2 ∙ ap (λ z. r.0 ++ z) e))

-- words of a language are over its letters
pub accepted_letters : {L : Type 0} (d : Complete L) {s : ℕ} {w : List L} → AcceptsFrom d s w → IsOver d.letters w
accepted_letters d (stop h) = All-nil (Contains d.letters)
accepted_letters d (read {x = x} {w = w} k letter goes rest) = All-cons (Contains d.letters) x w (Contains-from_slice_get d.letters k x letter) (accepted_letters d rest)

pub accepted_by : (words lang : Complete (Bound Mark)) → lang.letters ≡ words.letters → (w : List (Bound Mark)) → Accepts words w → IsOver lang.letters w
accepted_by words lang same w h = subst (λ ls. IsOver ls w) (sym same) (accepted_letters words h)

-- the words between those of two languages
pub between_kept : (k : ℕ) (words left right begun ended first second : Complete (Bound Mark)) → left.letters ≡ words.letters → right.letters ≡ words.letters → IsLang left.letters (λ w. IsOver left.letters w × KeepsLeft (Accepts left) k w) begun → IsLang right.letters (λ w. IsOver right.letters w × KeepsRight (Accepts right) k w) ended
    → IsLang words.letters (λ w. Accepts words w × Accepts begun w) first → IsLang first.letters (λ w. Accepts first w × Accepts ended w) second → IsLang words.letters (λ w. Accepts words w × (KeepsLeft (Accepts left) k w × KeepsRight (Accepts right) k w)) second
between_kept k words left right begun ended first second same_left same_right begun_is ended_is first_is second_is =
    IsLang-same words.letters (λ w. Accepts first w × Accepts ended w) (λ w. Accepts words w × (KeepsLeft (Accepts left) k w × KeepsRight (Accepts right) k w)) second
    (λ w. (
      λ h. let t = (first_is.words w).0 h.0 in (t.0, (((begun_is.words w).0 t.1).1, ((ended_is.words w).0 h.1).1)),
      λ h. (
        (first_is.words w).1 (h.0, (begun_is.words w).1 (accepted_by words left same_left w h.0, h.1.0)),
        (ended_is.words w).1 (accepted_by words right same_right w h.0, h.1.1),
      ),
    ))
    (subst (λ ls. IsLang ls (λ w. Accepts first w × Accepts ended w) second) first_is.over second_is)

-- the words that leave no centre
pub none_left : (marks : List (Bound Mark)) (left right broken kept : Complete (Bound Mark)) (same : marks ≡ left.letters) (centre : Automaton Sym) (before copied behind rest whole : Automaton (Bound Mark))
    → ((w : List (Bound Mark)) → language.Accepts before w ↔ Accepts left w) → ((w : List (Bound Mark)) → language.Accepts copied w ↔ ((c : List Sym) × (w ≡ copies c) × language.Accepts centre c)) → ((w : List (Bound Mark)) → language.Accepts behind w ↔ Accepts right w)
    → ((w : List (Bound Mark)) → language.Accepts rest w ↔ IsConcatenation (language.Accepts copied) (language.Accepts behind) w) → ((w : List (Bound Mark)) → language.Accepts whole w ↔ IsConcatenation (language.Accepts before) (language.Accepts rest) w)
    → IsLang marks (λ w. IsOver marks w × language.Accepts whole w) broken → IsLang broken.letters (λ w. IsOver broken.letters w × ¬ Accepts broken w) kept
    → IsLang left.letters (λ w. IsOver left.letters w × LeavesNone (language.Accepts centre) (Accepts left) (Accepts right) w) kept
none_left marks left right broken kept same centre before copied behind rest whole before_is copied_is behind_is rest_is whole_is broken_is kept_is =
    IsLang-same left.letters (λ w. IsOver left.letters w × ¬ Accepts broken w) (λ w. IsOver left.letters w × LeavesNone (language.Accepts centre) (Accepts left) (Accepts right) w) kept
    (λ w. (λ h. (h.0, down w h.0 h.1), λ h. (h.0, up w h.1)))
    (subst (λ ls. IsLang ls (λ w. IsOver ls w × ¬ Accepts broken w) kept) (broken_is.over ∙ same) kept_is)
  where
    down : (w : List (Bound Mark)) → IsOver left.letters w → ¬ Accepts broken w → LeavesNone (language.Accepts centre) (Accepts left) (Accepts right) w
    down w over none x c z e is first last =
        none ((broken_is.words w).1 (subst (λ ls. IsOver ls w) (sym same) over, (whole_is w).1 (x, copies c ++ z, e, (before_is x).1 first, (rest_is (copies c ++ z)).1 (copies c, z, refl, (copied_is (copies c)).1 (c, refl, is), (behind_is z).1 last))))

    up : (w : List (Bound Mark)) → LeavesNone (language.Accepts centre) (Accepts left) (Accepts right) w → ¬ Accepts broken w
    up w leaves h =
        let r = (whole_is w).0 ((broken_is.words w).0 h).1 in
        let t = (rest_is r.1).0 r.4 in
        let c = (copied_is t.0).0 t.3 in
        leaves r.0 c.0 t.1 (r.2 ∙ ap (λ z. r.0 ++ z) (t.2 ∙ ap (λ z. z ++ t.1) c.1)) c.2 ((before_is r.0).0 r.3) ((behind_is t.1).0 t.4)

pub own_letter : (letters : List (Bound Mark)) (x y : Bound Mark) → Contains {X = Bound Mark × Option (Bound Mark)} (own_table letters) (x, Some y) → Contains letters y
own_letter letters x y h =
    let r = row_cases (λ m. Some m) letters x (Some y) h in
    let e : Some x ≡ Some y = r.1 in
    let same : x ≡ y = cc in
    subst (Contains letters) same r.0
