-- Values of idle features don't count for what comes behind.
use Rattle.std.proofs.Common.{◌≡◌, ℕ, ◌+◌, ◌<◌, ◌≤◌, ◌⊎◌, ◌↔◌, ◌^◌, Bool, bit_and, true, false, cond, List, ◌++◌, Option, None, Some, length, get_or, take, refl, sym, ap, subst, inl, inr, arith, ◌∙◌}
use Rattle.std.specs.Prelude.{slice_index_or, slice_set}
use Rattle.std.specs.List.{Contains, slice_get, enumerate_from}
use Rattle.std.specs.Option.{option_map, option_to_list, unwrap_or}
use Rattle.std.proofs.lemmas.Bool.{cases_eq, cases_lt, false≢true}
use Rattle.std.proofs.lemmas.List.{length-map, length-set, ext_get_or, take_more, take_all}
use Rattle.std.proofs.lemmas.List.Elements.{Contains-push_cases}
use Rattle.std.proofs.lemmas.List.FromFn.{length-enumerate_from, get_or-enumerate_from}
use Rattle.std.proofs.lemmas.Option.{slice_get_past, slice_get-map, same_Some, slice_get-get_or, get_or_from_slice_get, unwrap_or-slice_get}
use Rattle.word_relations.proofs.Places.{slice_get-set_same, slice_get-set_other}
use Rattle.fsa.specs.Automaton.{Automaton}
use Rattle.fsa.specs.Language.{AcceptsFrom}
use Rattle.fsa.specs.declared.automaton.Edge.{Edge}
use Rattle.fsa_rational.proofs.Walks.{AcceptsFrom-least}
use Rattle.regex_ast.specs.declared.lexc.FlagKind.{FlagKind}
use Rattle.regex_ast.specs.declared.lexc.FlagKind.TheVariants.{P, N, C, R, D, U}
use Rattle.flag_diacritics.specs.declared.tape.Tape.{Tape}
use Rattle.flag_diacritics.specs.declared.tape.Tape.TheVariants.{Pair as OfPair, UpFlag, LowFlag}
use Rattle.flag_diacritics.specs.declared.actions.Action.{Action}
use Rattle.flag_diacritics.specs.declared.idle.Idle.{Idle}
use Rattle.flag_diacritics.specs.declared.setting.Setting.{Setting}
use Rattle.flag_diacritics.specs.declared.setting.Setting.TheVariants.{Neutral}
use Rattle.flag_diacritics.specs.Numbers.{Features, passes_by, setting_by, behind_if, with_upper, with_lower, behind}
use Rattle.flag_diacritics.specs.Idle.{does_test, does_set, is_idle, KeepsIdle, upper_action, lower_action, upper_row, lower_row, IsIdleAlong, AreIdle, HasSettled, masked, masked_at, behind_edge, live_behind}
use Rattle.flag_diacritics.specs.Search.{IsPlaceBehind}
use Rattle.flag_diacritics.specs.declared.tables.Place.{Place}
use Rattle.flag_diacritics.proofs.Passing.{Runs}
use Rattle.flag_diacritics.proofs.Rows.{idle_within, none_of_both}

pub runs_step : (actions : List Action) (letter : Option Tape) (now next : Features) (tape : List Tape) → behind actions letter now ≡ Some next → Runs actions next tape → Runs actions now (option_to_list letter ++ tape)
runs_step actions None now next tape is r = subst (λ (z : Features). Runs actions z tape) (sym (same_Some now next is)) r
runs_step actions (Some letter) now next tape is r = (next, is, r)

pub runs_cases : (actions : List Action) (letter : Option Tape) (now : Features) (tape : List Tape) → Runs actions now (option_to_list letter ++ tape) → (next : Features) × (behind actions letter now ≡ Some next) × Runs actions next tape
runs_cases actions None now tape r = (now, refl, r)
runs_cases actions (Some letter) now tape r = r

by_bool : (b : Bool) → (b ≡ true) ⊎ (b ≡ false)
by_bool true = inl refl
by_bool false = inr refl

cond_some : {X : Type 0} (b : Bool) (x y : X) → cond b (Some x) None ≡ Some y → (b ≡ true) × (x ≡ y)
cond_some true x y is = (refl, same_Some x y is)
cond_some false x y is = let clash : None ≡ Some y = is in cc

pub mapped_some : {X Y : Type 0} (f : X → Y) (o : Option X) (y : Y) → option_map f o ≡ Some y → (x : X) × (o ≡ Some x) × (f x ≡ y)
mapped_some f None y is = let clash : None ≡ Some y = is in cc
mapped_some f (Some x) y is = (x, refl, same_Some (f x) y is)

-- a flag does the same at two values, if they are equal where they count
alike_passes : (kind : FlagKind) (value : Option ℕ) (x y : Setting) → (does_test kind ≡ true → x ≡ y) → passes_by x kind value ≡ passes_by y kind value
alike_passes P value x y same = refl
alike_passes N value x y same = refl
alike_passes C value x y same = refl
alike_passes R value x y same = ap (λ z. passes_by z R value) (same refl)
alike_passes D value x y same = ap (λ z. passes_by z D value) (same refl)
alike_passes U value x y same = ap (λ z. passes_by z U value) (same refl)

alike_behind : (kind : FlagKind) (value : Option ℕ) (x y : Setting) → (does_set kind ≡ false → x ≡ y) → setting_by x kind value ≡ setting_by y kind value
alike_behind P None x y same = refl
alike_behind P (Some v) x y same = refl
alike_behind N None x y same = refl
alike_behind N (Some v) x y same = refl
alike_behind C value x y same = refl
alike_behind R value x y same = ap (λ z. setting_by z R value) (same refl)
alike_behind D value x y same = ap (λ z. setting_by z D value) (same refl)
alike_behind U None x y same = refl
alike_behind U (Some v) x y same = refl

-- two lists have the same values but for the idle features
pub record Agree (row : ℕ) (xs ys : List Setting) : Type 0 where
  pub long : length xs ≡ length ys
  pub same : (f : ℕ) → is_idle row f ≡ false → slice_get xs f ≡ slice_get ys f

pub agree_sym : (row : ℕ) (xs ys : List Setting) → Agree row xs ys → Agree row ys xs
agree_sym row xs ys h = record { long = sym h.long; same = λ f live. sym (h.same f live) }

index_same : (xs ys : List Setting) (f : ℕ) → slice_get xs f ≡ slice_get ys f → slice_index_or xs f Neutral ≡ slice_index_or ys f Neutral
index_same xs ys f e = sym (unwrap_or-slice_get xs f Neutral) ∙ ap (λ (o : Option Setting). unwrap_or o Neutral) e ∙ unwrap_or-slice_get ys f Neutral

module _ (before behind : ℕ) (xs ys : List Setting) (agree : Agree before xs ys) where
  agree_on : KeepsIdle None before behind → Agree behind xs ys
  agree_on keeps = record {
    long = agree.long;
    same = λ f live. elim (by_bool (is_idle before f)) [
      | inl idle ↦ elim (keeps.stays f idle) [
        | inl still ↦ absurd (false≢true (sym live ∙ still))
        | inr never ↦ absurd never
      ]
      | inr awake ↦ agree.same f awake
    ];
  }

  module _ (a : Action) (keeps : KeepsIdle (Some a) before behind) where
    abbrev now_x : Setting
    now_x = slice_index_or xs a.feature Neutral

    abbrev now_y : Setting
    now_y = slice_index_or ys a.feature Neutral

    abbrev new_x : Setting
    new_x = setting_by now_x a.kind a.value

    abbrev new_y : Setting
    new_y = setting_by now_y a.kind a.value

    new_same : is_idle behind a.feature ≡ false → new_x ≡ new_y
    new_same live =
        alike_behind a.kind a.value now_x now_y
        (λ sets_none. elim (by_bool (is_idle before a.feature)) [
          | inl idle ↦ elim (keeps.stays a.feature idle) [
            | inl still ↦ absurd (false≢true (sym live ∙ still))
            | inr sets ↦ absurd (false≢true (sym sets_none ∙ sets.1))
          ]
          | inr awake ↦ index_same xs ys a.feature (agree.same a.feature awake)
        ])

    set_here : is_idle behind a.feature ≡ false → slice_get (slice_set xs a.feature new_x) a.feature ≡ slice_get (slice_set ys a.feature new_y) a.feature
    set_here live =
        let long = agree.long in
        let long_x : length (slice_set xs a.feature new_x) ≡ length xs = length-set xs a.feature new_x in
        let long_y : length (slice_set ys a.feature new_y) ≡ length ys = length-set ys a.feature new_y in
        elim (cases_lt a.feature (length xs)) [
          | inl within ↦ slice_get-set_same xs a.feature new_x within ∙ ap Some (new_same live) ∙ sym (slice_get-set_same ys a.feature new_y (omega arith))
          | inr past ↦ slice_get_past (slice_set xs a.feature new_x) a.feature (omega arith) ∙ sym (slice_get_past (slice_set ys a.feature new_y) a.feature (omega arith))
        ]

    agree_set : Agree behind (slice_set xs a.feature new_x) (slice_set ys a.feature new_y)
    agree_set = record {
      long = length-set xs a.feature new_x ∙ agree.long ∙ sym (length-set ys a.feature new_y);
      same = λ f live. elim (cases_eq f a.feature) [
        | inl is ↦
            subst (λ k. slice_get (slice_set xs a.feature new_x) k ≡ slice_get (slice_set ys a.feature new_y) k) (sym is)
            (set_here (subst (λ k. is_idle behind k ≡ false) is live))
        | inr other ↦
            let awake : is_idle before f ≡ false = elim (by_bool (is_idle before f)) [
              | inl idle ↦ elim (keeps.stays f idle) [
                | inl still ↦ absurd (false≢true (sym live ∙ still))
                | inr sets ↦ absurd (other (sym sets.0))
              ]
              | inr awake ↦ awake
            ] in
            slice_get-set_other xs a.feature f new_x other ∙ agree.same f awake ∙ sym (slice_get-set_other ys a.feature f new_y other)
      ];
    }

  one_action : (o : Option Action) → KeepsIdle o before behind → (next : List Setting) → behind_if xs o ≡ Some next → (then : List Setting) × (behind_if ys o ≡ Some then) × Agree behind next then
  one_action None keeps next is = (ys, refl, subst (λ (z : List Setting). Agree behind z ys) (same_Some xs next is) (agree_on keeps))
  one_action (Some a) keeps next is =
      let r = cond_some (passes_by (now_x a keeps) a.kind a.value) (slice_set xs a.feature (new_x a keeps)) next is in
      let tested : does_test a.kind ≡ true → now_x a keeps ≡ now_y a keeps = λ t. index_same xs ys a.feature (agree.same a.feature (keeps.tests t)) in
      let passes : passes_by (now_y a keeps) a.kind a.value ≡ true = sym (alike_passes a.kind a.value (now_x a keeps) (now_y a keeps) tested) ∙ r.0 in (
        slice_set ys a.feature (new_y a keeps),
        ap (λ (b : Bool). cond b (Some (slice_set ys a.feature (new_y a keeps))) None) passes,
        subst (λ (z : List Setting). Agree behind z (slice_set ys a.feature (new_y a keeps))) r.1 (agree_set a keeps),
      )

-- what features are, with the idle ones neutral
masked_get : (row : ℕ) (xs : List Setting) (f : ℕ) → f < length xs → slice_get (masked row xs) f ≡ Some (cond (is_idle row f) Neutral (get_or xs f Neutral))
masked_get row xs f within =
    let v : ℕ × Setting → Setting = λ p. cond (is_idle row p.0) Neutral p.1 in
    let es = enumerate_from 0 xs in
    let long_es : length es ≡ length xs = length-enumerate_from 0 xs in
    let d : Setting = Neutral in
    let value : Setting = get_or xs f d in
    let zero : 0 + f ≡ f = omega arith in
    let at : get_or es f (0, d) ≡ (f, value) = get_or-enumerate_from 0 xs f (0, d) within ∙ ap (λ (k : ℕ). (k, value)) zero in
    slice_get-map v es f ∙ ap (option_map v) (slice_get-get_or es f (0, d) (omega arith)) ∙ ap (λ (p : ℕ × Setting). Some (v p)) at

masked_long : (row : ℕ) (xs : List Setting) → length (masked row xs) ≡ length xs
masked_long row xs = length-map (enumerate_from 0 xs) (λ p. cond (is_idle row p.0) Neutral p.1) ∙ length-enumerate_from 0 xs

agree_masked : (row : ℕ) (xs : List Setting) → Agree row (masked row xs) xs
agree_masked row xs =
    let long = masked_long row xs in
    record {
      long = long;
      same = λ f live. elim (cases_lt f (length xs)) [
        | inl within ↦ masked_get row xs f within ∙ ap (λ (b : Bool). Some (cond b Neutral (get_or xs f Neutral))) live ∙ sym (slice_get-get_or xs f Neutral within)
        | inr past ↦ slice_get_past (masked row xs) f (omega arith) ∙ sym (slice_get_past xs f past)
      ];
    }

-- a list that is neutral at the features that are idle
pub masked_same : (row bits : ℕ) (xs : List Setting) → row < 2 ^ 64 → bit_and row bits ≡ 0 → HasSettled bits xs → masked row xs ≡ xs
masked_same row bits xs fits apart has =
    let long = masked_long row xs in
    ext_get_or Neutral (masked row xs) xs long
    (λ f below.
    let within : f < length xs = omega arith in
    let value : Setting = get_or xs f Neutral in
    let is : cond (is_idle row f) Neutral value ≡ value = elim (by_bool (is_idle row f)) [
      | inl idle ↦ ap (λ (b : Bool). cond b Neutral value) idle ∙ sym (has f (idle_within row f fits idle) (none_of_both row bits f apart idle))
      | inr awake ↦ ap (λ (b : Bool). cond b Neutral value) awake
    ] in
    get_or_from_slice_get (masked row xs) f (cond (is_idle row f) Neutral value) Neutral (masked_get row xs f within) ∙ is)

-- both sides
pub record AgreeAt (idle : Idle) (state : ℕ) (now then : Features) : Type 0 where
  pub upper : Agree (upper_row idle state) now.upper then.upper
  pub lower : Agree (lower_row idle state) now.lower then.lower

with_upper_some : (now : Features) (o : Option (List Setting)) (next : Features) → with_upper now o ≡ Some next → (u : List Setting) × (o ≡ Some u) × (◌≡◌ {A = Features} (record { upper = u; lower = now.lower }) next)
with_upper_some now None next is = let clash : None ≡ Some next = is in cc
with_upper_some now (Some u) next is = (u, refl, same_Some (record { upper = u; lower = now.lower }) next is)

with_lower_some : (now : Features) (o : Option (List Setting)) (next : Features) → with_lower now o ≡ Some next → (l : List Setting) × (o ≡ Some l) × (◌≡◌ {A = Features} (record { upper = now.upper; lower = l }) next)
with_lower_some now None next is = let clash : None ≡ Some next = is in cc
with_lower_some now (Some l) next is = (l, refl, same_Some (record { upper = now.upper; lower = l }) next is)

module _ (actions : List Action) (idle : Idle) where
  module _ (from to : ℕ) (now then next : Features) (agree : AgreeAt idle from now then) where
    stays : KeepsIdle None (upper_row idle from) (upper_row idle to) → KeepsIdle None (lower_row idle from) (lower_row idle to) → now ≡ next → AgreeAt idle to next then
    stays up low is =
        subst (λ (z : Features). AgreeAt idle to z then) is
        (record {
          upper = agree_on (upper_row idle from) (upper_row idle to) now.upper then.upper agree.upper up;
          lower = agree_on (lower_row idle from) (lower_row idle to) now.lower then.lower agree.lower low;
        })

    one_letter : (letter : Option Tape) → KeepsIdle (upper_action actions letter) (upper_row idle from) (upper_row idle to) → KeepsIdle (lower_action actions letter) (lower_row idle from) (lower_row idle to)
        → behind actions letter now ≡ Some next → (after : Features) × (behind actions letter then ≡ Some after) × AgreeAt idle to next after
    one_letter None up low is = (then, refl, stays up low (same_Some now next is))
    one_letter (Some (OfPair pair)) up low is = (then, refl, stays up low (same_Some now next is))
    one_letter (Some (UpFlag n)) up low is =
        let r = with_upper_some now (behind_if now.upper (slice_get actions n)) next is in
        let s = one_action (upper_row idle from) (upper_row idle to) now.upper then.upper agree.upper (slice_get actions n) up r.0 r.1 in (
          record { upper = s.0; lower = then.lower },
          ap (with_upper then) s.1,
          subst (λ (z : Features). AgreeAt idle to z (record { upper = s.0; lower = then.lower })) r.2
              (record { upper = s.2; lower = agree_on (lower_row idle from) (lower_row idle to) now.lower then.lower agree.lower low }),
        )
    one_letter (Some (LowFlag n)) up low is =
        let r = with_lower_some now (behind_if now.lower (slice_get actions n)) next is in
        let s = one_action (lower_row idle from) (lower_row idle to) now.lower then.lower agree.lower (slice_get actions n) low r.0 r.1 in (
          record { upper = then.upper; lower = s.0 },
          ap (with_lower then) s.1,
          subst (λ (z : Features). AgreeAt idle to z (record { upper = then.upper; lower = s.0 })) r.2
              (record { upper = agree_on (upper_row idle from) (upper_row idle to) now.upper then.upper agree.upper up; lower = s.2 }),
        )

  module _ (net : Automaton Tape) (are : AreIdle actions idle net.edges) where
    runs_alike : {state : ℕ} {tape : List Tape} → AcceptsFrom net state tape → (now then : Features) → AgreeAt idle state now then → Runs actions now tape → Runs actions then tape
    runs_alike = AcceptsFrom-least net (λ state tape. (now then : Features) → AgreeAt idle state now then → Runs actions now tape → Runs actions then tape)
        (λ q h now then agree r. tt)
        (λ old tape held rest now then agree r.
        let c = runs_cases actions old.letter now tape r in
        let along : IsIdleAlong actions idle old = are old held in
        let s = one_letter old.from old.to now then c.0 agree old.letter along.upper along.lower c.1 in
        runs_step actions old.letter then s.0 tape s.1 (rest c.0 s.0 s.2 c.2))

    -- a path's flags pass from what the features are where they pass with the idle ones neutral
    pub masked_runs : (state : ℕ) (tape : List Tape) → AcceptsFrom net state tape → (now : Features) → Runs actions now tape ↔ Runs actions (masked_at idle state now) tape
    masked_runs state tape path now =
        let up = agree_masked (upper_row idle state) now.upper in
        let low = agree_masked (lower_row idle state) now.lower in
        let mask : Features = masked_at idle state now in (
          runs_alike path now mask (record { upper = agree_sym (upper_row idle state) mask.upper now.upper up; lower = agree_sym (lower_row idle state) mask.lower now.lower low }),
          runs_alike path mask now (record { upper = up; lower = low }),
        )

-- the rows are looked at edge by edge
module _ (actions : List Action) (idle : Idle) (edges : List (Edge Tape)) (i : ℕ) where
  pub idle_more : (d : Edge Tape) → i < length edges → AreIdle actions idle (take i edges) → IsIdleAlong actions idle (get_or edges i d) → AreIdle actions idle (take (i + 1) edges)
  idle_more d within before is e held =
      let y : Edge Tape = get_or edges i d in
      elim (Contains-push_cases (take i edges) y e (subst (λ es. Contains es e) (take_more edges i d within) held)) [
        | inl older ↦ before e older
        | inr same ↦ subst (IsIdleAlong actions idle) same is
      ]

  pub idle_all : length edges ≤ i → AreIdle actions idle (take i edges) → AreIdle actions idle edges
  idle_all past h = subst (AreIdle actions idle) (take_all i edges past) h

-- the place behind an edge, with its idle features neutral
module _ (actions : List Action) (idle : Idle) (edge : Edge Tape) (now : Features) where
  pub live_none : behind_edge actions edge now ≡ None → live_behind actions idle edge now ≡ None
  live_none is = ap (option_map (masked_at idle edge.to)) is

  pub live_some : (old new : List (List Setting)) (next : Place) (upper lower : ℕ) → IsPlaceBehind (behind_edge actions) old edge now (Some next)
      → ((u : List Setting) → slice_get old next.upper ≡ Some u → slice_get new upper ≡ Some (masked (upper_row idle edge.to) u))
      → ((l : List Setting) → slice_get old next.lower ≡ Some l → slice_get new lower ≡ Some (masked (lower_row idle edge.to) l))
      → IsPlaceBehind (live_behind actions idle) new edge now (Some (record { state = next.state; upper = upper; lower = lower }))
  live_some old new next upper lower (then, is, state_is, shows) up low =
      (masked_at idle edge.to then, ap (option_map (masked_at idle edge.to)) is, state_is, record { upper = up then.upper shows.upper; lower = low then.lower shows.lower })
