-- Two transducers with conditions joined: the conditions of the second stand behind those of the first.
use Rattle.std.proofs.Common.{◌≡◌, ◌<◌, ◌≤◌, ◌+◌, ◌⊎◌, ◌↔◌, ℕ, Bool, true, false, cond, List, [], ◌∷◌, ◌++◌, Option, Some, None, length, refl, sym, ap, subst, inl, inr, ◌∙◌, arith, length-append}
use Rattle.std.specs.Prelude.{min}
use Rattle.std.specs.List.{Contains}
use Rattle.std.proofs.lemmas.Bool.{cases_Bool, cond-true, cond-false}
use Rattle.std.proofs.lemmas.Option.{same_Some}
use Rattle.fsm_base.specs.declared.letters.Sym.{Sym}
use Rattle.fsm_base.specs.declared.letters.Pair.{Pair}
use Rattle.word_relations.specs.Relations.{AreSame}
use Rattle.fsa.specs.Automaton.{Automaton, UsesLetter}
use Rattle.fsa.specs.Language.{Accepts}
use Rattle.fst_algebra.specs.Relations.{UsesUpper, UsesLower}
use Rattle.fst_algebra.proofs.Relabelled.{IsRelabelled}
use Rattle.fst_flagged.specs.declared.condition.Condition.{Condition}
use Rattle.fst_flagged.specs.Conditions.{first}
use Rattle.fst_flagged.specs.Flagged.{FlaggedView, FlaggedRelates, StandApart, UsesLetters}
use Rattle.fst_flagged.specs.Images.{is_condition, most, raised, renumbered}
use Rattle.fst_flagged.proofs.Carried.{Carried, through, carried_same, carried_relabelled, carried_union}
use Rattle.fst_flagged.proofs.Loads.{above, above_carries}
use Rattle.fst_flagged.proofs.Letters.{accepted_letter, plain_below, Apart, HasCondition, apart_of, stand_from, condition_in}
use Rattle.fst_flagged.proofs.Moved.{more_same, renumbered_same}

-- more conditions let as many letters stand apart
pub apart_more : (few many : ℕ) (pair : Pair) → few ≤ many → Apart few pair → Apart many pair
apart_more few many pair le apart = record {
  lower = apart.lower;
  alone = apart.alone;
  listed = λ x is. omega (arith, le, apart.listed x is);
}

-- a transducer whose conditions are followed by others
module _ (f : FlaggedView) (stand : StandApart f) (rest : List Condition) where
  pub front_apart : (pair : Pair) → UsesLetter f.net pair → Apart (length (f.conditions ++ rest)) pair
  front_apart pair uses = apart_more (length f.conditions) (length (f.conditions ++ rest)) pair (omega (arith, length-append f.conditions rest)) (apart_of f stand pair uses)

  pub front_carries : AreSame (Carried (Accepts f.net) (above (f.conditions ++ rest))) (FlaggedRelates f)
  front_carries u w =
      let one = carried_same (Accepts f.net) (above (f.conditions ++ rest)) (above f.conditions) (λ v path pair among. more_same pair f.conditions (apart_of f stand pair (accepted_letter path pair among)) rest) u w in
      let two = above_carries f.net f.conditions u w in
      (λ h. two.1 (one.0 h), λ h. one.1 (two.0 h))

-- one whose conditions follow others
module _ (f : FlaggedView) (stand : StandApart f) (front : List Condition) (fits : first + (length front + length f.conditions) ≤ most) (m : Automaton Pair) where
  abbrev change : Pair → Option Pair
  change pair = Some (renumbered (length front) pair)

  pub rest_carries : ((w : List Pair) → Accepts m w ↔ IsRelabelled change (Accepts f.net) w) → AreSame (Carried (Accepts m) (above (front ++ f.conditions))) (FlaggedRelates f)
  rest_carries same u w =
      let one = carried_relabelled change (Accepts f.net) (Accepts m) same (above (front ++ f.conditions)) u w in
      let two = carried_same (Accepts f.net) (through change (above (front ++ f.conditions))) (above f.conditions) (λ v path pair among. renumbered_same pair f.conditions (apart_of f stand pair (accepted_letter path pair among)) front fits) u w in
      let three = above_carries f.net f.conditions u w in
      (λ h. three.1 (two.0 (one.0 h)), λ h. one.1 (two.1 (three.0 h)))

  -- a letter of it is as it was, or has a condition
  abbrev IsRaised : Pair → Pair → Type 0
  IsRaised old pair = ((old ≡ pair) × (is_condition old.up ≡ false)) ⊎ ((pair.low ≡ None) × ((x : Sym) × (pair.up ≡ Some x) × (first ≤ x.0) × (x.0 < first + (length front + length f.conditions))))

  raised_is : (old pair : Pair) → Apart (length f.conditions) old → renumbered (length front) old ≡ pair → IsRaised old pair
  raised_is old pair apart is =
      elim (cases_Bool (is_condition old.up)) [
        | inl cond ↦
            let h = condition_in (length f.conditions) old apart cond in
            let made : record { up = raised (length front) (Some h.symbol); low = old.low } ≡ pair =
            sym (cond-true (is_condition old.up) (record { up = raised (length front) old.up; low = old.low }) old cond ∙ ap (λ (o : Option Sym). record { up = raised (length front) o; low = old.low }) h.up) ∙ is in
            let number : ℕ = min (h.symbol.0 + length front) most in
            inr (
              sym (ap (λ (p : Pair). p.low) made) ∙ h.low,
              (record { 0 = number }, sym (ap (λ (p : Pair). p.up) made), omega (arith, h.from, fits), omega (arith, h.listed)),
            )
        | inr plain ↦ inl (sym (cond-false (is_condition old.up) (record { up = raised (length front) old.up; low = old.low }) old plain) ∙ is, plain)
      ]

  module _ (letters : (y : Pair) → UsesLetter m y → (x : Pair) × UsesLetter f.net x × (change x ≡ Some y)) where
    abbrev pub Origin : Pair → Type 0
    Origin pair = (UsesLetter f.net pair × (is_condition pair.up ≡ false)) ⊎ ((pair.low ≡ None) × ((x : Sym) × (pair.up ≡ Some x) × (first ≤ x.0) × (x.0 < first + (length front + length f.conditions))))

    origin : (pair : Pair) → UsesLetter m pair → Origin pair
    origin pair uses =
        let r = letters pair uses in
        elim (raised_is r.0 pair (apart_of f stand r.0 r.1) (same_Some (renumbered (length front) r.0) pair r.2)) as (λ _. Origin pair) [
          | inl same ↦ inl (subst (UsesLetter f.net) same.0 r.1, ap (λ (p : Pair). is_condition p.up) (sym same.0) ∙ same.1)
          | inr h ↦ inr h
        ]

    apart_from : (pair : Pair) → Origin pair → Apart (length (front ++ f.conditions)) pair
    apart_from pair (inl (uses, plain)) = apart_more (length f.conditions) (length (front ++ f.conditions)) pair (omega (arith, length-append front f.conditions)) (apart_of f stand pair uses)
    apart_from pair (inr (low, (y, up, from, listed))) = record {
      lower = λ x is. let clash : None ≡ Some x = sym low ∙ is in absurd (cc);
      alone = λ x is far. low;
      listed = λ x is. let same : y ≡ x = same_Some y x (sym up ∙ is) in omega (arith, ap (λ (s : Sym). s.0) same, listed, length-append front f.conditions);
    }

    pub rest_apart : (pair : Pair) → UsesLetter m pair → Apart (length (front ++ f.conditions)) pair
    rest_apart pair uses = apart_from pair (origin pair uses)

    upper_from : (pair : Pair) → Origin pair → (x : Sym) → pair.up ≡ Some x → x.0 < first → UsesUpper f.net x
    upper_from pair (inl (uses, plain)) x is small = (pair, uses, is)
    upper_from pair (inr (low, (y, up, from, listed))) x is small = let same : y ≡ x = same_Some y x (sym up ∙ is) in absurd (omega (arith, ap (λ (s : Sym). s.0) same, from, small))

    pub rest_upper : (pair : Pair) → UsesLetter m pair → (x : Sym) → pair.up ≡ Some x → x.0 < first → UsesUpper f.net x
    rest_upper pair uses x is small = upper_from pair (origin pair uses) x is small

    lower_from : (pair : Pair) → Origin pair → (x : Sym) → pair.low ≡ Some x → UsesLower f.net x
    lower_from pair (inl (uses, plain)) x is = (pair, uses, is)
    lower_from pair (inr (low, h)) x is = let clash : None ≡ Some x = sym low ∙ is in absurd (cc)

    pub rest_lower : (pair : Pair) → UsesLetter m pair → (x : Sym) → pair.low ≡ Some x → UsesLower f.net x
    rest_lower pair uses x is = lower_from pair (origin pair uses) x is

-- union
module _ (f g : FlaggedView) (stand : StandApart f) (stand' : StandApart g) (fits : first + (length f.conditions + length g.conditions) ≤ most) (second m : Automaton Pair)
    (letters : (y : Pair) → UsesLetter second y → (x : Pair) × UsesLetter g.net x × (Some (renumbered (length f.conditions) x) ≡ Some y))
    (same : (w : List Pair) → Accepts second w ↔ IsRelabelled (λ (p : Pair). Some (renumbered (length f.conditions) p)) (Accepts g.net) w)
    (either : (y : Pair) → UsesLetter m y → UsesLetter f.net y ⊎ UsesLetter second y)
    (language : (w : List Pair) → Accepts m w ↔ (Accepts f.net w ⊎ Accepts second w)) where
  abbrev joined : FlaggedView
  joined = record { net = m; conditions = f.conditions ++ g.conditions }

  either_apart : (pair : Pair) → UsesLetter f.net pair ⊎ UsesLetter second pair → Apart (length (f.conditions ++ g.conditions)) pair
  either_apart pair (inl uses) = front_apart f stand g.conditions pair uses
  either_apart pair (inr uses) = rest_apart g stand' f.conditions fits second letters pair uses

  pub union_stands : StandApart joined
  union_stands = stand_from m (f.conditions ++ g.conditions) (λ pair uses. either_apart pair (either pair uses))

  module _ (symbols : List Sym) (uses_f : UsesLetters symbols f) (uses_g : UsesLetters symbols g) where
    either_upper : (pair : Pair) → UsesLetter f.net pair ⊎ UsesLetter second pair → (x : Sym) → pair.up ≡ Some x → x.0 < first → Contains symbols x
    either_upper pair (inl uses) x is small = uses_f.upper x (pair, uses, is) small
    either_upper pair (inr uses) x is small = uses_g.upper x (rest_upper g stand' f.conditions fits second letters pair uses x is small) small

    either_lower : (pair : Pair) → UsesLetter f.net pair ⊎ UsesLetter second pair → (x : Sym) → pair.low ≡ Some x → Contains symbols x
    either_lower pair (inl uses) x is = uses_f.lower x (pair, uses, is)
    either_lower pair (inr uses) x is = uses_g.lower x (rest_lower g stand' f.conditions fits second letters pair uses x is)

    pub union_letters : UsesLetters symbols joined
    union_letters = record {
      upper = λ x (pair, uses, is) small. either_upper pair (either pair uses) x is small;
      lower = λ x (pair, uses, is). either_lower pair (either pair uses) x is;
    }

  pub union_relation : AreSame (FlaggedRelates joined) (λ u w. FlaggedRelates f u w ⊎ FlaggedRelates g u w)
  union_relation u w =
      let one = above_carries m (f.conditions ++ g.conditions) u w in
      let two = carried_union (Accepts f.net) (Accepts second) (Accepts m) (above (f.conditions ++ g.conditions)) language u w in
      let left = front_carries f stand g.conditions u w in
      let right = rest_carries g stand' f.conditions fits second same u w in (
        λ h. elim (two.0 (one.0 h)) as (λ _. FlaggedRelates f u w ⊎ FlaggedRelates g u w) [ inl p ↦ inl (left.0 p) | inr q ↦ inr (right.0 q) ],
        λ h. elim h as (λ _. FlaggedRelates joined u w) [ inl p ↦ one.1 (two.1 (inl (left.1 p))) | inr q ↦ one.1 (two.1 (inr (right.1 q))) ],
      )

-- the same where the number and the conditions are what the call has
module _ (f g : FlaggedView) (stand : StandApart f) (stand' : StandApart g) (by front rest : ℕ) (by_is : by ≡ front) (front_is : front ≡ length f.conditions) (rest_is : rest ≡ length g.conditions) (fits : first + (front + rest) ≤ most) (second m : Automaton Pair)
    (letters : (y : Pair) → UsesLetter second y → (x : Pair) × UsesLetter g.net x × (Some (renumbered by x) ≡ Some y))
    (same : (w : List Pair) → Accepts second w ↔ IsRelabelled (λ (p : Pair). Some (renumbered by p)) (Accepts g.net) w)
    (either : (y : Pair) → UsesLetter m y → UsesLetter f.net y ⊎ UsesLetter second y)
    (language : (w : List Pair) → Accepts m w ↔ (Accepts f.net w ⊎ Accepts second w))
    (conditions : List Condition) (are : conditions ≡ f.conditions ++ g.conditions) where
  number_is : by ≡ length f.conditions
  number_is = by_is ∙ front_is

  all_fit : first + (length f.conditions + length g.conditions) ≤ most
  all_fit = omega (arith, fits, front_is, rest_is)

  letters_at : (y : Pair) → UsesLetter second y → (x : Pair) × UsesLetter g.net x × (Some (renumbered (length f.conditions) x) ≡ Some y)
  letters_at = subst (λ (n : ℕ). (y : Pair) → UsesLetter second y → (x : Pair) × UsesLetter g.net x × (Some (renumbered n x) ≡ Some y)) number_is letters

  same_at : (w : List Pair) → Accepts second w ↔ IsRelabelled (λ (p : Pair). Some (renumbered (length f.conditions) p)) (Accepts g.net) w
  same_at = subst (λ (n : ℕ). (w : List Pair) → Accepts second w ↔ IsRelabelled (λ (p : Pair). Some (renumbered n p)) (Accepts g.net) w) number_is same

  pub joined_stands : StandApart (record { net = m; conditions = conditions })
  joined_stands = subst (λ (cs : List Condition). StandApart (record { net = m; conditions = cs })) (sym are) (union_stands f g stand stand' all_fit second m letters_at same_at either language)

  pub joined_letters : (f' g' : FlaggedView) → f ≡ f' → g ≡ g' → (symbols : List Sym) → UsesLetters symbols f' → UsesLetters symbols g' → UsesLetters symbols (record { net = m; conditions = conditions })
  joined_letters f' g' is is' symbols uses uses' =
      subst (λ (cs : List Condition). UsesLetters symbols (record { net = m; conditions = cs })) (sym are)
      (union_letters f g stand stand' all_fit second m letters_at same_at either language symbols (subst (UsesLetters symbols) (sym is) uses) (subst (UsesLetters symbols) (sym is') uses'))

  pub joined_relation : (f' g' : FlaggedView) → f ≡ f' → g ≡ g' → AreSame (FlaggedRelates (record { net = m; conditions = conditions })) (λ u w. FlaggedRelates f' u w ⊎ FlaggedRelates g' u w)
  joined_relation f' g' is is' =
      subst (λ (z : FlaggedView). AreSame (FlaggedRelates (record { net = m; conditions = conditions })) (λ u w. FlaggedRelates z u w ⊎ FlaggedRelates g' u w)) is
      (subst (λ (z : FlaggedView). AreSame (FlaggedRelates (record { net = m; conditions = conditions })) (λ u w. FlaggedRelates f u w ⊎ FlaggedRelates z u w)) is'
      (subst (λ (cs : List Condition). AreSame (FlaggedRelates (record { net = m; conditions = cs })) (λ u w. FlaggedRelates f u w ⊎ FlaggedRelates g u w)) (sym are)
      (union_relation f g stand stand' all_fit second m letters_at same_at either language)))
