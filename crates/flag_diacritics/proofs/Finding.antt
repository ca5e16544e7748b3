-- What is found again by a hash.
use Rattle.std.proofs.Common.{◌≡◌, ℕ, zero, suc, ◌⊎◌, true, false, Bool, List, [], ◌∷◌, ◌++◌, None, Some, map, length, subst, refl, sym, ap, inl, inr, arith, ◌∙◌, rules, tests}
use Rattle.std.specs.Prelude.{nat_eq, ◌&&◌, if◌then◌else◌}
use Rattle.std.specs.Bool.{Decides}
use Rattle.std.specs.Cmp.Lexicographic.{pointwise}
use Rattle.std.specs.List.{slice_get}
use Rattle.std.specs.Option.{option_map}
use Rattle.std.proofs.lemmas.Bool.Decides.{nat_tests}
use Rattle.std.proofs.lemmas.List.{map-append}
use Rattle.std.proofs.lemmas.Option.{slice_get-map, slice_get_within, same_Some}
use Rattle.std.proofs.lemmas.Slice.Eq.{slice_eq-Decides}
use Rattle.word_relations.proofs.Places.{slice_get-append_left, slice_get-append_cases}
use Rattle.flag_diacritics.specs.declared.tables.Place.{Place}
use Rattle.flag_diacritics.specs.declared.setting.Setting.{Setting}
use Rattle.flag_diacritics.specs.declared.setting.Setting.TheVariants.{Neutral, Has, Barred}
use Rattle.flag_diacritics.specs.contracts.setting.SettingPartialEq.TheImpl as setting_eq
use Rattle.flag_diacritics.specs.Idle.{HasSettled, AreSettled}
use Rattle.flag_diacritics.specs.Numbers.{Keeps}

-- the bits of a list are noted
pub are_settled_more : (old new : List (List Setting)) (rows noted : List ℕ) (number bits : ℕ) (now : List Setting) → AreSettled old rows → Keeps old new → slice_get new number ≡ Some now → HasSettled bits now
    → (noted ≡ rows) ⊎ ((number ≡ length rows) × (noted ≡ rows ++ bits ∷ [])) → AreSettled new noted
are_settled_more old new rows noted number bits now are keeps at has (inl same) k row found =
    let r = are k row (sym (ap (λ (zs : List ℕ). slice_get zs k) same) ∙ found) in (r.0, keeps k r.0 r.1, r.2)
are_settled_more old new rows noted number bits now are keeps at has (inr (next, more)) k row found =
    elim (slice_get-append_cases rows (bits ∷ []) k row (sym (ap (λ (zs : List ℕ). slice_get zs k) more) ∙ found)) [
      | inl older ↦ let r = are k row older in (r.0, keeps k r.0 r.1, r.2)
      | inr (zero, here, is) ↦
          let k_is : k ≡ number = omega arith in
          (now, ap (slice_get new) k_is ∙ at, subst (λ (z : ℕ). HasSettled z now) (same_Some bits row is) has)
      | inr (suc j, here, is) ↦ let clash : None ≡ Some row = is in cc
    ]

-- a list with one more item at its end keeps what it has
pub keeps_more : {X : Type 0} (old new : List X) (x : X) → (new ≡ old) ⊎ (new ≡ old ++ x ∷ []) → Keeps old new
keeps_more old new x (inl same) k y at = ap (λ ys. slice_get ys k) same ∙ at
keeps_more old new x (inr more) k y at = ap (λ ys. slice_get ys k) more ∙ slice_get-append_left old (x ∷ []) k (slice_get_within old k y at) ∙ at

-- so does one into which an item is put where it isn't there
pub keeps_inserted : {X Y : Type 0} (items : X → Y) (is_there : Bool) (keys new : List X) (x : X) → new ≡ (if is_there then keys else keys ++ x ∷ []) → Keeps (map items keys) (map items new)
keeps_inserted items true keys new x is = λ k y at. ap (λ zs. slice_get (map items zs) k) is ∙ at
keeps_inserted items false keys new x is = keeps_more (map items keys) (map items new) (items x) (inr (ap (map items) is ∙ map-append items keys (x ∷ [])))

pub keeps_then : {X : Type 0} (a b c : List X) → Keeps a b → Keeps b c → Keeps a c
keeps_then a b c first second k x at = second k x (first k x at)

-- what `==` says of two features
same_setting : (x y : Setting) → Decides ((setting_eq.eq-value).it x y) (x ≡ y)
same_setting Neutral Neutral = search (rules, tests)
same_setting Neutral (Has y) = search (rules, tests)
same_setting Neutral (Barred y) = search (rules, tests)
same_setting (Has x) Neutral = search (rules, tests)
same_setting (Has x) (Has y) = search (rules, tests)
same_setting (Has x) (Barred y) = search (rules, tests)
same_setting (Barred x) Neutral = search (rules, tests)
same_setting (Barred x) (Has y) = search (rules, tests)
same_setting (Barred x) (Barred y) = search (rules, tests)

module _ {X : Type 0} (items : X → List Setting) (list : List Setting) where
  -- an entry that compares equal to the list stands there for it
  pub listed_at : (keys : List X) (i : ℕ) (x : X) → slice_get keys i ≡ Some x → pointwise (setting_eq.eq-value).it list (items x) ≡ true → slice_get (map items keys) i ≡ Some list
  listed_at keys i x at same =
      let is : list ≡ items x = (slice_eq-Decides same_setting list (items x) (pointwise (setting_eq.eq-value).it list (items x)) refl).0 same in
      slice_get-map items keys i ∙ ap (option_map items) at ∙ ap Some (sym is)

same_parts : (s t u v l m : ℕ) → s ≡ t → u ≡ v → l ≡ m → ◌≡◌ {A = Place} (record { state = t; upper = v; lower = m }) (record { state = s; upper = u; lower = l })
same_parts s t u v l m first second third = cc

-- places that compare equal are the same
pub same_place : (a b : Place) → nat_eq a.state b.state && (nat_eq a.upper b.upper && nat_eq a.lower b.lower) ≡ true → b ≡ a
same_place a b h =
    let first : a.state ≡ b.state = grind (arith, nat_tests) in
    let second : a.upper ≡ b.upper = grind (arith, nat_tests) in
    let third : a.lower ≡ b.lower = grind (arith, nat_tests) in
    same_parts a.state b.state a.upper b.upper a.lower b.lower first second third
