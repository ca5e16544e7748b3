-- Conditions as flags of tapes, and flags of tapes as conditions.
use Rattle.std.proofs.Common.{◌≡◌, ◌<◌, ◌≤◌, ◌+◌, ◌-◌, ◌⊎◌, ◌↔◌, ℕ, Bool, true, false, not, cond, List, [], ◌∷◌, ◌++◌, Option, Some, None, length, map, refl, sym, ap, subst, inl, inr, ◌∙◌, arith, length-append}
use Rattle.std.specs.Prelude.{slice_get, min, nat_lt}
use Rattle.std.specs.List.{Contains}
use Rattle.std.specs.Option.{option_to_list, option_map}
use Rattle.std.proofs.lemmas.Bool.{cases_Bool, cond-true, cond-false, and_parts, not-true, ltb-true}
use Rattle.std.proofs.lemmas.List.{length-map}
use Rattle.std.proofs.lemmas.Option.{same_Some}
use Rattle.fsm_base.specs.declared.letters.Sym.{Sym}
use Rattle.fsm_base.specs.declared.letters.Pair.{Pair}
use Rattle.word_relations.specs.Relations.{AreSame}
use Rattle.fsa.specs.Automaton.{Automaton, UsesLetter}
use Rattle.fsa.specs.Language.{Accepts}
use Rattle.fsa.specs.declared.automaton.Edge.{Edge}
use Rattle.fst_algebra.specs.Relations.{UsesUpper, UsesLower}
use Rattle.fst_algebra.proofs.Relabelled.{IsRelabelled}
use Rattle.regex_ast.specs.declared.lexc.FlagOp.{FlagOp}
use Rattle.flag_diacritics.specs.declared.tape.Tape.{Tape}
use Rattle.flag_diacritics.specs.declared.tape.Tape.TheVariants.{Pair as OfPair, UpFlag, LowFlag}
use Rattle.flag_diacritics.specs.Tapes.{TapesRelate, UsesPair}
use Rattle.fst_flagged.specs.declared.condition.Condition.{Condition}
use Rattle.fst_flagged.specs.declared.condition.Run.{Run}
use Rattle.fst_flagged.specs.declared.condition.Run.TheVariants.{Upper, Lower}
use Rattle.fst_flagged.specs.Conditions.{first}
use Rattle.fst_flagged.specs.Flagged.{FlaggedView, FlaggedRelates, StandApart, UsesLetters}
use Rattle.fst_flagged.specs.Images.{is_condition, is_plain, is_plain_tape, most, condition_of, condition_pair, as_pair, on_side, flag_at_place, flag_at, as_tape}
use Rattle.fst_flagged.proofs.Carried.{Carried, through, carried_same, carried_relabelled}
use Rattle.fst_flagged.proofs.Loads.{above, of_tapes, above_carries, tapes_carry}
use Rattle.fst_flagged.proofs.Letters.{accepted_letter, plain_below, plain_from, Apart, HasCondition, apart_of, stand_from, condition_in}
use Rattle.fst_flagged.proofs.Moved.{tape_same, pair_same, conditions_for}

-- no flag is a pair
no_pair : (run : Run) (n : ℕ) (pair : Pair) → on_side run n ≡ OfPair pair → ⊥
no_pair Upper n pair is = cc
no_pair Lower n pair is = cc

no_flag_pair : (conditions : List Condition) (o : Option Sym) (pair : Pair) → flag_at conditions o ≡ Some (OfPair pair) → ⊥
no_flag_pair conditions None pair is = cc
no_flag_pair conditions (Some x) pair is = by (slice_get conditions (x.0 - first)) is
  where
    by : (o : Option Condition) → option_map (λ condition. on_side condition.run (x.0 - first)) o ≡ Some (OfPair pair) → ⊥
    by None is = cc
    by (Some c) is = no_pair c.run (x.0 - first) pair (same_Some (on_side c.run (x.0 - first)) (OfPair pair) is)

module _ (f : FlaggedView) (stand : StandApart f) (tapes : Automaton Tape) where
  -- the pairs of the tapes are those without conditions
  old_pair : (old pair : Pair) → as_tape f.conditions old ≡ Some (OfPair pair) → (old ≡ pair) × (is_condition old.up ≡ false)
  old_pair old pair is =
      elim (cases_Bool (is_condition old.up)) [
        | inl cond ↦ absurd (no_flag_pair f.conditions old.up pair (sym (cond-true (is_condition old.up) (flag_at f.conditions old.up) (Some (OfPair old)) cond) ∙ is))
        | inr plain ↦
            let same : Some (OfPair old) ≡ Some (OfPair pair) = sym (cond-false (is_condition old.up) (flag_at f.conditions old.up) (Some (OfPair old)) plain) ∙ is in
            let tape : OfPair old ≡ OfPair pair = same_Some (OfPair old) (OfPair pair) same in
            (cc, plain)
      ]

  pub pair_was : ((y : Tape) → UsesLetter tapes y → (x : Pair) × UsesLetter f.net x × (as_tape f.conditions x ≡ Some y)) → (pair : Pair) → UsesPair tapes pair → UsesLetter f.net pair × (is_condition pair.up ≡ false)
  pair_was letters pair uses =
      let r = letters (OfPair pair) uses in
      let h = old_pair r.0 pair r.2 in
      (subst (UsesLetter f.net) h.0 r.1, ap (λ (p : Pair). is_condition p.up) (sym h.0) ∙ h.1)

  module _ (m : Automaton Pair) (pairs : (pair : Pair) → UsesLetter m pair → UsesLetter f.net pair × (is_condition pair.up ≡ false)) (symbols : List Sym) (uses : UsesLetters symbols f) where
    pub resolved_upper : (x : Sym) → UsesUpper m x → Contains symbols x
    resolved_upper x (pair, held, is) = let h = pairs pair held in uses.upper x (pair, h.0, is) (plain_below pair.up h.1 x is)

    pub resolved_lower : (x : Sym) → UsesLower m x → Contains symbols x
    resolved_lower x (pair, held, is) = uses.lower x (pair, (pairs pair held).0, is)

  pub tapes_relation : ((w : List Tape) → Accepts tapes w ↔ IsRelabelled (as_tape f.conditions) (Accepts f.net) w) → AreSame (TapesRelate tapes (map (λ (c : Condition). c.flag) f.conditions)) (FlaggedRelates f)
  tapes_relation same u w =
      let flags : List FlagOp = map (λ (c : Condition). c.flag) f.conditions in
      let one = tapes_carry tapes flags u w in
      let two = carried_relabelled (as_tape f.conditions) (Accepts f.net) (Accepts tapes) same (of_tapes flags) u w in
      let three = carried_same (Accepts f.net) (through (as_tape f.conditions) (of_tapes flags)) (above f.conditions) (λ v path pair among. tape_same pair f.conditions (apart_of f stand pair (accepted_letter path pair among))) u w in
      let four = above_carries f.net f.conditions u w in
      (λ h. four.1 (three.0 (two.0 (one.0 h))), λ h. one.1 (two.1 (three.1 (four.0 h))))

-- tapes
module _ (tapes : Automaton Tape) (flags : List FlagOp) (fits : first + (length flags + length flags) ≤ most) (plain : (e : Edge Tape) → Contains tapes.edges e → is_plain_tape e.letter ≡ true) (m : Automaton Pair) where
  abbrev change : Tape → Option Pair
  change tape = as_pair (length flags) (first + length flags) tape

  plain_pair : (tape : Tape) → UsesLetter tapes tape → (pair : Pair) → tape ≡ OfPair pair → is_plain (Some pair) ≡ true
  plain_pair tape (e, held, letter) pair is = ap is_plain_tape (ap (λ (t : Tape). Some t) (sym is) ∙ sym letter) ∙ plain e held

  pub of_relation : ((w : List Pair) → Accepts m w ↔ IsRelabelled change (Accepts tapes) w) → AreSame (FlaggedRelates (record { net = m; conditions = conditions_for flags fits })) (TapesRelate tapes flags)
  of_relation same u w =
      let conditions : List Condition = conditions_for flags fits in
      let one = above_carries m conditions u w in
      let two = carried_relabelled change (Accepts tapes) (Accepts m) same (above conditions) u w in
      let three = carried_same (Accepts tapes) (through change (above conditions)) (of_tapes flags) (λ v path tape among. pair_same flags fits tape (plain_pair tape (accepted_letter path tape among))) u w in
      let four = tapes_carry tapes flags u w in
      (λ h. four.1 (three.0 (two.0 (one.0 h))), λ h. one.1 (two.1 (three.1 (four.0 h))))

  -- the pair of a flag
  record IsFlagPair (pair : Pair) : Type 0 where
    symbol : Sym
    up : pair.up ≡ Some symbol
    low : pair.low ≡ None
    from : first ≤ symbol.0
    listed : symbol.0 < first + (length flags + length flags)

  flag_pair : (from n : ℕ) (pair : Pair) → first ≤ from → from ≤ first + length flags → condition_pair (length flags) from n ≡ Some pair → IsFlagPair pair
  flag_pair from n pair far small is =
      elim (cases_Bool (nat_lt n (length flags))) [
        | inl inside ↦
            let made : record { up = Some (record { 0 = min (from + n) most }); low = None } ≡ pair =
            same_Some (record { up = Some (record { 0 = min (from + n) most }); low = None }) pair (sym (cond-true (nat_lt n (length flags)) (Some (record { up = Some (record { 0 = min (from + n) most }); low = None })) None inside) ∙ is) in
            let below : n < length flags = ltb-true n (length flags) inside in
            record {
              symbol = record { 0 = min (from + n) most };
              up = sym (ap (λ (p : Pair). p.up) made);
              low = sym (ap (λ (p : Pair). p.low) made);
              from = omega (arith, far, fits);
              listed = omega (arith, small, below);
            }
        | inr past ↦
            let clash : None ≡ Some pair = sym (cond-false (nat_lt n (length flags)) (Some (record { up = Some (record { 0 = min (from + n) most }); low = None })) None past) ∙ is in
            absurd (cc)
      ]

  came_from : (tape : Tape) (pair : Pair) → change tape ≡ Some pair → (tape ≡ OfPair pair) ⊎ IsFlagPair pair
  came_from (OfPair old) pair is = inl (ap (λ (p : Pair). OfPair p) (same_Some old pair is))
  came_from (UpFlag n) pair is = inr (flag_pair first n pair (omega arith) (omega arith) is)
  came_from (LowFlag n) pair is = inr (flag_pair (first + length flags) n pair (omega arith) (omega arith) is)

  module _ (letters : (y : Pair) → UsesLetter m y → (x : Tape) × UsesLetter tapes x × (change x ≡ Some y)) where
    origin : (pair : Pair) → UsesLetter m pair → UsesPair tapes pair ⊎ IsFlagPair pair
    origin pair uses =
        let r = letters pair uses in
        elim (came_from r.0 pair r.2) as (λ _. UsesPair tapes pair ⊎ IsFlagPair pair) [
          | inl is ↦ inl (subst (UsesLetter tapes) is r.1)
          | inr h ↦ inr h
        ]

    flags_count : length (conditions_for flags fits) ≡ length flags + length flags
    flags_count =
        let joined : length (conditions_for flags fits) ≡ length (map (condition_of Upper) flags) + length (map (condition_of Lower) flags) = length-append (map (condition_of Upper) flags) (map (condition_of Lower) flags) in
        omega (arith, joined, length-map flags (condition_of Upper), length-map flags (condition_of Lower))

    made_apart : (pair : Pair) → UsesPair tapes pair ⊎ IsFlagPair pair → Apart (length (conditions_for flags fits)) pair
    made_apart pair (inl (e, held, letter)) =
        let parts = and_parts (not (is_condition pair.up)) (not (is_condition pair.low)) (ap is_plain_tape (sym letter) ∙ plain e held) in
        let up = not-true (is_condition pair.up) parts.0 in
        let low = not-true (is_condition pair.low) parts.1 in
        record {
          lower = λ x is. plain_below pair.low low x is;
          alone = λ x is from. absurd (omega (arith, from, plain_below pair.up up x is));
          listed = λ x is. omega (arith, plain_below pair.up up x is);
        }
    made_apart pair (inr h) = record {
      lower = λ x is. let clash : None ≡ Some x = sym h.low ∙ is in absurd (cc);
      alone = λ x is from. h.low;
      listed = λ x is. let same : h.symbol ≡ x = same_Some h.symbol x (sym h.up ∙ is) in omega (arith, ap (λ (s : Sym). s.0) same, h.listed, flags_count);
    }

    pub of_stands : StandApart (record { net = m; conditions = conditions_for flags fits })
    of_stands = stand_from m (conditions_for flags fits) (λ pair uses. made_apart pair (origin pair uses))

    pub of_upper : (x : Sym) → UsesUpper m x → x.0 < first → (pair : Pair) × UsesPair tapes pair × (pair.up ≡ Some x)
    of_upper x (pair, uses, is) small =
        elim (origin pair uses) [
          | inl held ↦ (pair, held, is)
          | inr h ↦ let same : h.symbol ≡ x = same_Some h.symbol x (sym h.up ∙ is) in absurd (omega (arith, ap (λ (s : Sym). s.0) same, h.from, small))
        ]

    pub of_lower : (x : Sym) → UsesLower m x → (pair : Pair) × UsesPair tapes pair × (pair.low ≡ Some x)
    of_lower x (pair, uses, is) =
        elim (origin pair uses) [
          | inl held ↦ (pair, held, is)
          | inr h ↦ let clash : None ≡ Some x = sym h.low ∙ is in absurd (cc)
        ]
