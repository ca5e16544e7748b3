-- Flags do by numbers what they do by texts.
use Rattle.std.proofs.Common.{◌≡◌, ℕ, ◌+◌, ◌<◌, ◌≤◌, ◌⊎◌, ◌↔◌, ◌&&◌, Bool, true, false, not, cond, List, [], ◌∷◌, ◌++◌, Option, None, Some, map, length, refl, sym, ap, subst, inl, inr, arith, ◌∙◌}
use Rattle.std.specs.Prelude.{nat_eq, slice_index_or, slice_set, slice_get, replicate, IsTrue}
use Rattle.std.specs.List.{flat_map}
use Rattle.std.specs.Option.{option_to_list}
use Rattle.std.specs.Str.{bytes_eq}
use Rattle.std.proofs.lemmas.Bool.{cases_eq, cases_lt, false≢true}
use Rattle.std.proofs.lemmas.Bool.Decides.{Decides-eqb}
use Rattle.std.proofs.lemmas.List.{get_or-replicate, length-replicate}
use Rattle.std.proofs.lemmas.Option.{slice_get_within, same_Some, slice_get-get_or, slice_get_cases, get_or_from_slice_get}
use Rattle.std.proofs.lemmas.Slice.Eq.{bytes_eq-Decides}
use Rattle.word_relations.specs.Words.{IsDistinct}
use Rattle.word_relations.proofs.Places.{slice_get-set_same, slice_get-set_other, slice_get-append_left, slice_get-push, same_at}
use Rattle.regex_ast.specs.declared.lexc.FlagKind.{FlagKind}
use Rattle.regex_ast.specs.declared.lexc.FlagKind.TheVariants.{P, N, C, R, D, U}
use Rattle.regex_ast.specs.declared.lexc.FlagOp.{FlagOp}
use Rattle.project_meaning.specs.Trees.{Piece, flag}
use Rattle.project_meaning.specs.Settings.{Setting as SettingOf, neutral, has, barred, is_neutral, has_value, may_have, passes, setting_behind}
use Rattle.project_meaning.specs.Lexicons.{features_behind, run_passes}
use Rattle.flag_diacritics.specs.declared.tape.Tape.{Tape}
use Rattle.flag_diacritics.specs.declared.tape.Tape.TheVariants.{Pair as OfPair, UpFlag, LowFlag}
use Rattle.flag_diacritics.specs.declared.actions.Action.{Action}
use Rattle.flag_diacritics.specs.declared.setting.Setting.{Setting}
use Rattle.flag_diacritics.specs.declared.setting.Setting.TheVariants.{Neutral, Has, Barred}
use Rattle.flag_diacritics.specs.Tapes.{flag_of, numbered, upper_flag, lower_flag, FlagsPass}
use Rattle.flag_diacritics.specs.Numbers.{Keeps, IsValue, IsSetting, StandsFor, AreActions, setting_of, from_setting, passes_by, setting_by, behind_if, Features, with_upper, with_lower, behind_letter}

same_bool : (b c : Bool) → (b ≡ true → c ≡ true) → (c ≡ true → b ≡ true) → b ≡ c
same_bool true true f g = refl
same_bool true false f g = sym (f refl)
same_bool false true f g = g refl
same_bool false false f g = refl

not_true : (b : Bool) → (b ≡ true → ⊥) → b ≡ false
not_true true never = absurd (never refl)
not_true false never = refl

-- the values by their numbers
module _ (values : List (List ℕ)) (once : IsDistinct values) where
  same_value : (a b : ℕ) (x y : List ℕ) → slice_get values a ≡ Some x → slice_get values b ≡ Some y → nat_eq a b ≡ bytes_eq x y
  same_value a b x y at_a at_b =
      same_bool (nat_eq a b) (bytes_eq x y)
      (λ e. (bytes_eq-Decides x y).1 (same_at values b x y (ap (λ k. slice_get values k) (sym ((Decides-eqb a b).0 e)) ∙ at_a) at_b))
      (λ e. (Decides-eqb a b).1 (once a b y (at_a ∙ ap Some ((bytes_eq-Decides x y).0 e)) at_b))

  same_has : (n : Setting) (t : SettingOf (List ℕ)) → IsSetting values n t → (a : ℕ) (x : List ℕ) → slice_get values a ≡ Some x → has_value nat_eq (setting_of n) a ≡ has_value bytes_eq t x
  same_has Neutral neutral h a x at = refl
  same_has Neutral (has y) h a x at = absurd h
  same_has Neutral (barred y) h a x at = absurd h
  same_has (Has b) neutral h a x at = absurd h
  same_has (Has b) (has y) h a x at = same_value b a y x h at
  same_has (Has b) (barred y) h a x at = absurd h
  same_has (Barred b) neutral h a x at = absurd h
  same_has (Barred b) (has y) h a x at = absurd h
  same_has (Barred b) (barred y) h a x at = refl

  same_may : (n : Setting) (t : SettingOf (List ℕ)) → IsSetting values n t → (a : ℕ) (x : List ℕ) → slice_get values a ≡ Some x → may_have nat_eq (setting_of n) a ≡ may_have bytes_eq t x
  same_may Neutral neutral h a x at = refl
  same_may Neutral (has y) h a x at = absurd h
  same_may Neutral (barred y) h a x at = absurd h
  same_may (Has b) neutral h a x at = absurd h
  same_may (Has b) (has y) h a x at = same_value b a y x h at
  same_may (Has b) (barred y) h a x at = absurd h
  same_may (Barred b) neutral h a x at = absurd h
  same_may (Barred b) (has y) h a x at = absurd h
  same_may (Barred b) (barred y) h a x at = ap not (same_value b a y x h at)

  same_neutral : (n : Setting) (t : SettingOf (List ℕ)) → IsSetting values n t → is_neutral (setting_of n) ≡ is_neutral t
  same_neutral Neutral neutral h = refl
  same_neutral Neutral (has y) h = absurd h
  same_neutral Neutral (barred y) h = absurd h
  same_neutral (Has b) neutral h = absurd h
  same_neutral (Has b) (has y) h = refl
  same_neutral (Has b) (barred y) h = absurd h
  same_neutral (Barred b) neutral h = absurd h
  same_neutral (Barred b) (has y) h = absurd h
  same_neutral (Barred b) (barred y) h = refl

  same_passes : (n : Setting) (t : SettingOf (List ℕ)) → IsSetting values n t → (kind : FlagKind) (v : Option ℕ) (w : Option (List ℕ)) → IsValue values v w → passes_by n kind v ≡ passes bytes_eq t kind w
  same_passes n t h P v w at = refl
  same_passes n t h N v w at = refl
  same_passes n t h C v w at = refl
  same_passes n t h R None None at = ap not (same_neutral n t h)
  same_passes n t h R None (Some y) at = absurd at
  same_passes n t h R (Some b) None at = absurd at
  same_passes n t h R (Some b) (Some y) at = same_has n t h b y at
  same_passes n t h D None None at = same_neutral n t h
  same_passes n t h D None (Some y) at = absurd at
  same_passes n t h D (Some b) None at = absurd at
  same_passes n t h D (Some b) (Some y) at = ap not (same_has n t h b y at)
  same_passes n t h U None None at = refl
  same_passes n t h U None (Some y) at = absurd at
  same_passes n t h U (Some b) None at = absurd at
  same_passes n t h U (Some b) (Some y) at = same_may n t h b y at

  stays : (n : Setting) (t : SettingOf (List ℕ)) → IsSetting values n t → IsSetting values (from_setting (setting_of n)) t
  stays Neutral t h = h
  stays (Has b) t h = h
  stays (Barred b) t h = h

  same_behind : (n : Setting) (t : SettingOf (List ℕ)) → IsSetting values n t → (kind : FlagKind) (v : Option ℕ) (w : Option (List ℕ)) → IsValue values v w → IsSetting values (setting_by n kind v) (setting_behind t kind w)
  same_behind n t h P None None at = tt
  same_behind n t h P None (Some y) at = absurd at
  same_behind n t h P (Some b) None at = absurd at
  same_behind n t h P (Some b) (Some y) at = at
  same_behind n t h N None None at = tt
  same_behind n t h N None (Some y) at = absurd at
  same_behind n t h N (Some b) None at = absurd at
  same_behind n t h N (Some b) (Some y) at = at
  same_behind n t h C v w at = tt
  same_behind n t h R v w at = stays n t h
  same_behind n t h D v w at = stays n t h
  same_behind n t h U None None at = tt
  same_behind n t h U None (Some y) at = absurd at
  same_behind n t h U (Some b) None at = absurd at
  same_behind n t h U (Some b) (Some y) at = at

-- the numbers say what each feature is
abbrev pub Holds : List (List ℕ) → List (List ℕ) → List Setting → (List ℕ → SettingOf (List ℕ)) → Type 0
Holds features values numbers now = (n : ℕ) (name : List ℕ) → slice_get features n ≡ Some name → (x : Setting) × (slice_get numbers n ≡ Some x) × IsSetting values x (now name)

-- a run of letters whose flags pass, from these features on
abbrev pub Runs : List Action → Features → List Tape → Type 0
Runs actions now [] = Unit {0}
Runs actions now (letter ∷ tape) = (next : Features) × (behind_letter actions letter now ≡ Some next) × Runs actions next tape

module _ (features values : List (List ℕ)) (features_once : IsDistinct features) (values_once : IsDistinct values) where
  module _ (f : FlagOp) (a : Action) (stands : StandsFor features values f a) (numbers : List Setting) (now : List ℕ → SettingOf (List ℕ)) (holds : Holds features values numbers now) where
    passes_at : passes_by (slice_index_or numbers a.feature Neutral) a.kind a.value ≡ passes bytes_eq (now f.feature) f.kind f.value
    passes_at =
        let h = holds a.feature f.feature stands.feature in
        ap (λ (z : Setting). passes_by z a.kind a.value) (get_or_from_slice_get numbers a.feature h.0 Neutral h.1)
        ∙ same_passes values values_once h.0 (now f.feature) h.2 a.kind a.value f.value stands.value
        ∙ ap (λ (k : FlagKind). passes bytes_eq (now f.feature) k f.value) stands.kind

    holds_behind : Holds features values (slice_set numbers a.feature (setting_by (slice_index_or numbers a.feature Neutral) a.kind a.value)) (features_behind now (flag_of f))
    holds_behind n name at =
        let h = holds a.feature f.feature stands.feature in
        let new : Setting = setting_by (slice_index_or numbers a.feature Neutral) a.kind a.value in
        let within : a.feature < length numbers = slice_get_within numbers a.feature h.0 h.1 in
        elim (cases_eq n a.feature) [
          | inl same ↦
              let name_is : f.feature ≡ name = same_at features a.feature f.feature name stands.feature (ap (λ k. slice_get features k) (sym same) ∙ at) in
              let is : bytes_eq f.feature name ≡ true = (bytes_eq-Decides f.feature name).1 name_is in
              let behind : IsSetting values new (setting_behind (now f.feature) f.kind f.value) =
              subst (λ (k : FlagKind). IsSetting values new (setting_behind (now f.feature) k f.value)) stands.kind
              (subst (λ (z : Setting). IsSetting values (setting_by z a.kind a.value) (setting_behind (now f.feature) a.kind f.value)) (sym (get_or_from_slice_get numbers a.feature h.0 Neutral h.1))
              (same_behind values values_once h.0 (now f.feature) h.2 a.kind a.value f.value stands.value)) in
              let here : IsSetting values new (setting_behind (now name) f.kind f.value) = subst (λ (z : List ℕ). IsSetting values new (setting_behind (now z) f.kind f.value)) name_is behind in (
                new,
                ap (λ k. slice_get (slice_set numbers a.feature new) k) same ∙ slice_get-set_same numbers a.feature new within,
                subst (λ (b : Bool). IsSetting values new (cond b (setting_behind (now name) f.kind f.value) (now name))) (sym is) here,
              )
          | inr other ↦
              let old = holds n name at in
              let differs : bytes_eq f.feature name ≡ false = not_true (bytes_eq f.feature name) (λ e. other (features_once n a.feature name at (stands.feature ∙ ap Some ((bytes_eq-Decides f.feature name).0 e)))) in (
                old.0,
                slice_get-set_other numbers a.feature n new other ∙ old.1,
                subst (λ (b : Bool). IsSetting values old.0 (cond b (setting_behind (now name) f.kind f.value) (now name))) (sym differs) old.2,
              )
        ]

  module _ (flags : List FlagOp) (actions : List Action) (count : length actions ≡ length flags)
      (stand : (n : ℕ) (f : FlagOp) → slice_get flags n ≡ Some f → (a : Action) × (slice_get actions n ≡ Some a) × StandsFor features values f a) where
    -- a flag that doesn't pass, and one that does
    abbrev IsBlocked : ℕ → List Setting → (List ℕ → SettingOf (List ℕ)) → Type 0
    IsBlocked n numbers now = (behind_if numbers (slice_get actions n) ≡ None) × ((rest : List (Piece (List ℕ))) → run_passes now (numbered flags n ++ rest) ≡ false)

    abbrev GoesOn : ℕ → List Setting → (List ℕ → SettingOf (List ℕ)) → Type 0
    GoesOn n numbers now =
        (next : List Setting) × (then : List ℕ → SettingOf (List ℕ)) × (behind_if numbers (slice_get actions n) ≡ Some next) × Holds features values next then
        × ((rest : List (Piece (List ℕ))) → run_passes now (numbered flags n ++ rest) ≡ run_passes then rest)

    module _ (n : ℕ) (numbers : List Setting) (now : List ℕ → SettingOf (List ℕ)) (holds : Holds features values numbers now) where
      -- no flag has the number
      absent : slice_get flags n ≡ None → length flags ≤ n → GoesOn n numbers now
      absent none past =
          let no_action : slice_get actions n ≡ None = elim ((slice_get_cases actions n).1) [
            | inl there ↦ let l = there.1 in absurd (omega (arith, count))
            | inr missing ↦ missing.1
          ] in (
            numbers,
            now,
            ap (λ (o : Option Action). behind_if numbers o) no_action,
            holds,
            λ rest. ap (λ (o : Option FlagOp). run_passes now (map (λ g. flag (flag_of g)) (option_to_list o) ++ rest)) none,
          )

      module _ (f : FlagOp) (at : slice_get flags n ≡ Some f) where
        -- the flag's run, and its action
        run_is : (rest : List (Piece (List ℕ))) → run_passes now (numbered flags n ++ rest) ≡ passes bytes_eq (now f.feature) f.kind f.value && run_passes (features_behind now (flag_of f)) rest
        run_is rest = ap (λ (o : Option FlagOp). run_passes now (map (λ g. flag (flag_of g)) (option_to_list o) ++ rest)) at

        action_is : (a : Action) → slice_get actions n ≡ Some a → (b : Bool) → passes_by (slice_index_or numbers a.feature Neutral) a.kind a.value ≡ b
            → behind_if numbers (slice_get actions n) ≡ cond b (Some (slice_set numbers a.feature (setting_by (slice_index_or numbers a.feature Neutral) a.kind a.value))) None
        action_is a there b is =
            ap (λ (o : Option Action). behind_if numbers o) there
            ∙ ap (λ (t : Bool). cond t (Some (slice_set numbers a.feature (setting_by (slice_index_or numbers a.feature Neutral) a.kind a.value))) None) is

        by_test : (b : Bool) → passes bytes_eq (now f.feature) f.kind f.value ≡ b → IsBlocked n numbers now ⊎ GoesOn n numbers now
        by_test true is =
            let r = stand n f at in
            let a : Action = r.0 in
            inr (
              slice_set numbers a.feature (setting_by (slice_index_or numbers a.feature Neutral) a.kind a.value),
              features_behind now (flag_of f),
              action_is a r.1 true (passes_at f a r.2 numbers now holds ∙ is),
              holds_behind f a r.2 numbers now holds,
              λ rest. run_is rest ∙ ap (λ (t : Bool). t && run_passes (features_behind now (flag_of f)) rest) is,
            )
        by_test false is =
            let r = stand n f at in
            let a : Action = r.0 in
            inl (action_is a r.1 false (passes_at f a r.2 numbers now holds ∙ is), λ rest. run_is rest ∙ ap (λ (t : Bool). t && run_passes (features_behind now (flag_of f)) rest) is)

      one_flag : IsBlocked n numbers now ⊎ GoesOn n numbers now
      one_flag = elim ((slice_get_cases flags n).1) [
        | inl there ↦ by_test there.0 there.2 (passes bytes_eq (now (there.0).feature) (there.0).kind (there.0).value) refl
        | inr missing ↦ inr (absent missing.1 missing.0)
      ]

    abbrev Passes : (List ℕ → SettingOf (List ℕ)) → (List ℕ → SettingOf (List ℕ)) → List Tape → Type 0
    Passes up low tape = IsTrue (run_passes up (flat_map (upper_flag flags) tape)) × IsTrue (run_passes low (flat_map (lower_flag flags) tape))

    pub runs_pass : (tape : List Tape) (now : Features) (up low : List ℕ → SettingOf (List ℕ)) → Holds features values now.upper up → Holds features values now.lower low → Runs actions now tape ↔ Passes up low tape
    runs_pass [] now up low hold_up hold_low = (λ r. (refl, refl), λ p. tt)
    runs_pass (OfPair pair ∷ tape) now up low hold_up hold_low =
        let rest = runs_pass tape now up low hold_up hold_low in (
          λ (next, is, r). rest.0 (subst (λ (z : Features). Runs actions z tape) (sym (same_Some now next is)) r),
          λ p. (now, refl, rest.1 p),
        )
    runs_pass (UpFlag n ∷ tape) now up low hold_up hold_low =
        elim (one_flag n now.upper up hold_up) [
          | inl (none, blocks) ↦ (
            λ (next, is, r). let clash : None ≡ Some next = sym (ap (with_upper now) none) ∙ is in cc,
            λ p. absurd (false≢true (sym (blocks (flat_map (upper_flag flags) tape)) ∙ p.0)),
          )
          | inr (upper, then, is_behind, hold, same) ↦
              let after : Features = record { upper = upper; lower = now.lower } in
              let rest = runs_pass tape after then low hold hold_low in (
                λ (next, is, r).
                    let next_is : after ≡ next = same_Some after next (sym (ap (with_upper now) is_behind) ∙ is) in
                    let p = rest.0 (subst (λ (z : Features). Runs actions z tape) (sym next_is) r) in (same (flat_map (upper_flag flags) tape) ∙ p.0, p.1),
                λ p. (after, ap (with_upper now) is_behind, rest.1 (sym (same (flat_map (upper_flag flags) tape)) ∙ p.0, p.1)),
              )
        ]
    runs_pass (LowFlag n ∷ tape) now up low hold_up hold_low =
        elim (one_flag n now.lower low hold_low) [
          | inl (none, blocks) ↦ (
            λ (next, is, r). let clash : None ≡ Some next = sym (ap (with_lower now) none) ∙ is in cc,
            λ p. absurd (false≢true (sym (blocks (flat_map (lower_flag flags) tape)) ∙ p.1)),
          )
          | inr (lower, then, is_behind, hold, same) ↦
              let after : Features = record { upper = now.upper; lower = lower } in
              let rest = runs_pass tape after up then hold_up hold in (
                λ (next, is, r).
                    let next_is : after ≡ next = same_Some after next (sym (ap (with_lower now) is_behind) ∙ is) in
                    let p = rest.0 (subst (λ (z : Features). Runs actions z tape) (sym next_is) r) in (p.0, same (flat_map (lower_flag flags) tape) ∙ p.1),
                λ p. (after, ap (with_lower now) is_behind, rest.1 (p.0, sym (same (flat_map (lower_flag flags) tape)) ∙ p.1)),
              )
        ]

-- at the start all features are neutral
abbrev pub all_neutral : ℕ → Features
all_neutral count = record { upper = replicate count Neutral; lower = replicate count Neutral }

holds_neutral : (features values : List (List ℕ)) → Holds features values (replicate (length features) Neutral) (λ feature. neutral)
holds_neutral features values n name at =
    let below : n < length features = slice_get_within features n name at in
    let within : n < length (replicate (length features) Neutral) = omega (arith, length-replicate {A = Setting} (length features) Neutral) in
    (Neutral, slice_get-get_or (replicate (length features) Neutral) n Neutral within ∙ ap Some (get_or-replicate (length features) n Neutral Neutral below), tt)

pub runs_from_start : (features values : List (List ℕ)) (flags : List FlagOp) (actions : List Action) → AreActions features values flags actions → (tape : List Tape) → Runs actions (all_neutral (length features)) tape ↔ FlagsPass flags tape
runs_from_start features values flags actions are tape =
    runs_pass features values are.features_once are.values_once flags actions are.count are.stand tape (all_neutral (length features)) (λ feature. neutral) (λ feature. neutral) (holds_neutral features values) (holds_neutral features values)

-- actions, one by one
value_kept : (values more : List (List ℕ)) → Keeps values more → (n : Option ℕ) (t : Option (List ℕ)) → IsValue values n t → IsValue more n t
value_kept values more kept None None h = h
value_kept values more kept None (Some y) h = h
value_kept values more kept (Some b) None h = h
value_kept values more kept (Some b) (Some y) h = kept b y h

stands_kept : (features values more_features more_values : List (List ℕ)) → Keeps features more_features → Keeps values more_values → (f : FlagOp) (a : Action) → StandsFor features values f a → StandsFor more_features more_values f a
stands_kept features values more_features more_values kept_features kept_values f a h =
    record { kind = h.kind; feature = kept_features a.feature f.feature h.feature; value = value_kept values more_values kept_values a.value f.value h.value }

module _ (flags : List FlagOp) where
  abbrev pub StandBelow : ℕ → List (List ℕ) → List (List ℕ) → List Action → Type 0
  StandBelow i features values actions = (n : ℕ) (f : FlagOp) → n < i → slice_get flags n ≡ Some f → (a : Action) × (slice_get actions n ≡ Some a) × StandsFor features values f a

  pub stand_more : (i : ℕ) (f : FlagOp) (a : Action) (features values more_features more_values : List (List ℕ)) (old new : List Action) → slice_get flags i ≡ Some f → length old ≡ i → new ≡ old ++ a ∷ [] → Keeps features more_features → Keeps values more_values → StandsFor more_features more_values f a → StandBelow i features values old → StandBelow (i + 1) more_features more_values new
  stand_more i f a features values more_features more_values old new at long pushed kept_features kept_values stands before n g below there =
      elim (cases_lt n i) [
        | inl b ↦
            let r = before n g b there in
            (r.0, ap (λ xs. slice_get xs n) pushed ∙ slice_get-append_left old (a ∷ []) n (omega arith) ∙ r.1, stands_kept features values more_features more_values kept_features kept_values g r.0 r.2)
        | inr after ↦
            let this : n ≡ length old = omega arith in
            let same : f ≡ g = same_at flags i f g at (ap (λ k. slice_get flags k) (sym (this ∙ long)) ∙ there) in
            (a, ap (λ xs. slice_get xs n) pushed ∙ ap (λ k. slice_get (old ++ a ∷ []) k) this ∙ slice_get-push old a, subst (λ (z : FlagOp). StandsFor more_features more_values z a) same stands)
      ]

  pub stand_all : (i : ℕ) (features values : List (List ℕ)) (actions : List Action) → length flags ≤ i → i ≤ length flags → length actions ≡ i → IsDistinct features → IsDistinct values → StandBelow i features values actions → AreActions features values flags actions
  stand_all i features values actions past within count features_once values_once stand = record {
    features_once = features_once;
    values_once = values_once;
    count = omega arith;
    stand = λ n f at. let l = slice_get_within flags n f at in stand n f (omega arith) at;
  }
