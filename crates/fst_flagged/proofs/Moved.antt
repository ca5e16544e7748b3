-- Letters whose conditions are moved carry what they carried.
use Rattle.std.proofs.Common.{◌≡◌, ◌<◌, ◌≤◌, ◌+◌, ◌-◌, ◌⊎◌, ◌↔◌, ◌^◌, ℕ, Bool, true, false, not, cond, List, [], ◌∷◌, ◌++◌, Option, Some, None, length, map, refl, sym, ap, subst, inl, inr, ◌∙◌, append-nil, arith}
use Rattle.std.specs.Prelude.{slice_get, min, nat_lt}
use Rattle.std.specs.List.{Contains, flat_map}
use Rattle.std.specs.Option.{option_to_list, option_map}
use Rattle.std.proofs.lemmas.Bool.{cases_Bool, cond-true, cond-false, lt-ltb, le-ltb, and_parts, not-true}
use Rattle.std.proofs.lemmas.List.{length-map}
use Rattle.std.proofs.lemmas.Option.{slice_get-map, slice_get_within, slice_get_cases}
use Rattle.fsm_base.specs.declared.letters.Sym.{Sym}
use Rattle.fsm_base.specs.declared.letters.Pair.{Pair}
use Rattle.word_relations.proofs.Places.{slice_get-append_left, slice_get-append_right}
use Rattle.regex_ast.specs.declared.lexc.FlagOp.{FlagOp}
use Rattle.project_meaning.specs.Trees.{Piece, flag}
use Rattle.flag_diacritics.specs.declared.tape.Tape.{Tape}
use Rattle.flag_diacritics.specs.declared.tape.Tape.TheVariants.{Pair as OfPair, UpFlag, LowFlag}
use Rattle.flag_diacritics.specs.Tapes.{flag_of, numbered, upper_flag, lower_flag}
use Rattle.fst_flagged.specs.declared.condition.Condition.{Condition}
use Rattle.fst_flagged.specs.declared.condition.Run.{Run}
use Rattle.fst_flagged.specs.declared.condition.Run.TheVariants.{Upper, Lower}
use Rattle.fst_flagged.specs.Conditions.{first, is_letter, is_run, letters_of, flag_in, flags_of}
use Rattle.fst_flagged.specs.Images.{is_condition, is_plain, moved_below, turned, most, raised, renumbered, condition_of, condition_pair, as_pair, on_side, flag_at_place, flag_at, as_tape}
use Rattle.fst_flagged.proofs.Carried.{Load, CarrySame, through, through_some, through_none, exchanged_load}
use Rattle.fst_flagged.proofs.Loads.{above, below, of_tapes}
use Rattle.fst_flagged.proofs.Letters.{is_one, plain_letters, plain_flags, condition_letters, flags_at, flags_moved, Apart, HasCondition, condition_in, plain_low}

-- a pair without a condition, and with one
module _ (count : ℕ) (pair : Pair) (apart : Apart count pair) where
  abbrev low_plain : is_condition pair.low ≡ false
  low_plain = plain_low count pair apart

  both_empty : (run : Run) (conditions others : List Condition) (x y : Option Sym) → is_condition x ≡ false → is_condition y ≡ false → flags_of run conditions (option_to_list x) ≡ flags_of run others (option_to_list y)
  both_empty run conditions others x y p q = plain_flags run conditions x p ∙ sym (plain_flags run others y q)

  -- a condition has nothing below, and is no letter
  bare : is_condition pair.up ≡ true → letters_of (option_to_list pair.up) ≡ option_to_list pair.low
  bare is = condition_letters pair.up is ∙ ap (λ (o : Option Sym). option_to_list o) (sym (condition_in count pair apart is).low)

  module _ (conditions : List Condition) where
    -- conditions moved below
    pub below_same : CarrySame (through (λ (p : Pair). Some (moved_below p)) (below conditions)) pair (above conditions) pair
    below_same =
        elim (cases_Bool (is_condition pair.up)) [
          | inl is ↦
              let made : moved_below pair ≡ record { up = None; low = pair.up } = cond-true (is_condition pair.up) (record { up = None; low = pair.up }) pair is in
              through_some (λ (p : Pair). Some (moved_below p)) (below conditions) (above conditions) pair (record { up = None; low = pair.up }) (ap Some made)
              (record { upper = sym (condition_letters pair.up is); lower = bare is; top = refl; bottom = refl })
          | inr is ↦
              let made : moved_below pair ≡ pair = cond-false (is_condition pair.up) (record { up = None; low = pair.up }) pair is in
              through_some (λ (p : Pair). Some (moved_below p)) (below conditions) (above conditions) pair pair (ap Some made)
              (record {
                upper = sym (plain_letters pair.up is);
                lower = plain_letters pair.low low_plain;
                top = both_empty Upper conditions conditions pair.low pair.up low_plain is;
                bottom = both_empty Lower conditions conditions pair.low pair.up low_plain is;
              })
        ]

    -- sides exchanged
    pub turned_same : CarrySame (through (λ (p : Pair). Some (turned p)) (above conditions)) pair (exchanged_load (above conditions)) pair
    turned_same =
        elim (cases_Bool (is_condition pair.up)) [
          | inl is ↦
              let made : turned pair ≡ pair = cond-true (is_condition pair.up) pair (record { up = pair.low; low = pair.up }) is in
              through_some (λ (p : Pair). Some (turned p)) (above conditions) (exchanged_load (above conditions)) pair pair (ap Some made)
              (record { upper = bare is; lower = sym (bare is); top = refl; bottom = refl })
          | inr is ↦
              let made : turned pair ≡ record { up = pair.low; low = pair.up } = cond-false (is_condition pair.up) pair (record { up = pair.low; low = pair.up }) is in
              through_some (λ (p : Pair). Some (turned p)) (above conditions) (exchanged_load (above conditions)) pair (record { up = pair.low; low = pair.up }) (ap Some made)
              (record {
                upper = plain_letters pair.low low_plain;
                lower = sym (plain_letters pair.up is);
                top = both_empty Upper conditions conditions pair.low pair.up low_plain is;
                bottom = both_empty Lower conditions conditions pair.low pair.up low_plain is;
              })
        ]

-- the flags of a condition among those of a longer list
module _ (pair : Pair) (conditions : List Condition) (apart : Apart (length conditions) pair) where
  -- others behind them
  pub more_same : (rest : List Condition) → CarrySame (above (conditions ++ rest)) pair (above conditions) pair
  more_same rest = record { upper = refl; lower = refl; top = flags Upper; bottom = flags Lower }
    where
      flags : (run : Run) → flags_of run (conditions ++ rest) (option_to_list pair.up) ≡ flags_of run conditions (option_to_list pair.up)
      flags run =
          elim (cases_Bool (is_condition pair.up)) [
            | inl is ↦
                let h = condition_in (length conditions) pair apart is in
                let from : first ≤ h.symbol.0 = h.from in
                let inside : h.symbol.0 - first < length conditions = omega (arith, h.listed, h.from) in
                ap (λ (o : Option Sym). flags_of run (conditions ++ rest) (option_to_list o)) h.up
                ∙ flags_moved run (conditions ++ rest) conditions h.symbol h.symbol from from (slice_get-append_left conditions rest (h.symbol.0 - first) inside)
                ∙ ap (λ (o : Option Sym). flags_of run conditions (option_to_list o)) (sym h.up)
            | inr is ↦ both_empty (length conditions) pair apart run (conditions ++ rest) conditions pair.up pair.up is is
          ]

  -- others before them, their numbers being greater
  module _ (front : List Condition) (fits : first + (length front + length conditions) ≤ most) where
    raised_is : (x : Sym) → x.0 < first + length conditions → min (x.0 + length front) most ≡ x.0 + length front
    raised_is x listed = omega (arith, listed, fits)

    pub renumbered_same : CarrySame (through (λ (p : Pair). Some (renumbered (length front) p)) (above (front ++ conditions))) pair (above conditions) pair
    renumbered_same =
        elim (cases_Bool (is_condition pair.up)) [
          | inl is ↦
              let h = condition_in (length conditions) pair apart is in
              let number : ℕ = h.symbol.0 + length front in
              let new : Sym = record { 0 = number } in
              let made : renumbered (length front) pair ≡ record { up = Some new; low = pair.low } =
              cond-true (is_condition pair.up) (record { up = raised (length front) pair.up; low = pair.low }) pair is
              ∙ ap (λ (o : Option Sym). record { up = raised (length front) o; low = pair.low }) h.up
              ∙ ap (λ (n : ℕ). record { up = Some (record { 0 = n }); low = pair.low }) (raised_is h.symbol h.listed) in
              let from : first ≤ number = omega (arith, h.from) in
              let place : number - first ≡ (h.symbol.0 - first) + length front = omega (arith, h.from) in
              let there : slice_get (front ++ conditions) (number - first) ≡ slice_get conditions (h.symbol.0 - first) = ap (slice_get (front ++ conditions)) place ∙ slice_get-append_right front conditions (h.symbol.0 - first) in
              let flags = λ (run : Run). flags_moved run (front ++ conditions) conditions new h.symbol from h.from there ∙ ap (λ (o : Option Sym). flags_of run conditions (option_to_list o)) (sym h.up) in
              through_some (λ (p : Pair). Some (renumbered (length front) p)) (above (front ++ conditions)) (above conditions) pair (record { up = Some new; low = pair.low }) (ap Some made)
              (record {
                upper = condition_letters (Some new) (is_one new from) ∙ sym (condition_letters pair.up is);
                lower = refl;
                top = flags Upper;
                bottom = flags Lower;
              })
          | inr is ↦
              let made : renumbered (length front) pair ≡ pair = cond-false (is_condition pair.up) (record { up = raised (length front) pair.up; low = pair.low }) pair is in
              through_some (λ (p : Pair). Some (renumbered (length front) p)) (above (front ++ conditions)) (above conditions) pair pair (ap Some made)
              (record {
                upper = refl;
                lower = refl;
                top = both_empty (length conditions) pair apart Upper (front ++ conditions) conditions pair.up pair.up is is;
                bottom = both_empty (length conditions) pair apart Lower (front ++ conditions) conditions pair.up pair.up is is;
              })
        ]

-- a flag by its number
numbered_at : (flags : List FlagOp) (n : ℕ) (f : FlagOp) → slice_get flags n ≡ Some f → numbered flags n ≡ flag (flag_of f) ∷ []
numbered_at flags n f at = ap (λ (o : Option FlagOp). map (λ g. flag (flag_of g)) (option_to_list o)) at

numbered_past : (flags : List FlagOp) (n : ℕ) → slice_get flags n ≡ None → numbered flags n ≡ []
numbered_past flags n past = ap (λ (o : Option FlagOp). map (λ g. flag (flag_of g)) (option_to_list o)) past

-- conditions as flags of tapes
module _ (pair : Pair) (conditions : List Condition) (apart : Apart (length conditions) pair) where
  abbrev flags_in : List FlagOp
  flags_in = map (λ (c : Condition). c.flag) conditions

  module _ (x : Sym) (c : Condition) (up : pair.up ≡ Some x) (from : first ≤ x.0) (low : pair.low ≡ None) (at : slice_get conditions (x.0 - first) ≡ Some c) where
    one_flag : (run : Run) → flags_of run conditions (option_to_list pair.up) ≡ flag_in run c
    one_flag run = ap (λ (o : Option Sym). flags_of run conditions (option_to_list o)) up ∙ flags_at run conditions x c from at

    flag_there : numbered flags_in (x.0 - first) ≡ flag (flag_of c.flag) ∷ []
    flag_there = numbered_at flags_in (x.0 - first) c.flag (slice_get-map (λ (c : Condition). c.flag) conditions (x.0 - first) ∙ ap (option_map (λ (c : Condition). c.flag)) at)

    flag_by : (run own : Run) → c.run ≡ own → flag_in run c ≡ cond (is_run run own) (flag (flag_of c.flag) ∷ []) []
    flag_by run own is = ap (λ (r : Run). cond (is_run run r) (flag (flag_of c.flag) ∷ []) []) is

    on_run : (own : Run) → c.run ≡ own → CarrySame (of_tapes flags_in) (on_side own (x.0 - first)) (above conditions) pair
    on_run Upper is = record {
      upper = sym (condition_letters pair.up (ap is_condition up ∙ is_one x from));
      lower = ap (λ (o : Option Sym). option_to_list o) (sym low);
      top = flag_there ∙ sym (one_flag Upper ∙ flag_by Upper Upper is);
      bottom = sym (one_flag Lower ∙ flag_by Lower Upper is);
    }
    on_run Lower is = record {
      upper = sym (condition_letters pair.up (ap is_condition up ∙ is_one x from));
      lower = ap (λ (o : Option Sym). option_to_list o) (sym low);
      top = sym (one_flag Upper ∙ flag_by Upper Lower is);
      bottom = flag_there ∙ sym (one_flag Lower ∙ flag_by Lower Lower is);
    }

  held : (k : ℕ) → k < length conditions → (c : Condition) × (slice_get conditions k ≡ Some c)
  held k inside =
      elim ((slice_get_cases conditions k).1) [
        | inl there ↦ (there.0, there.2)
        | inr past ↦ absurd (omega (arith, inside, past.0))
      ]

  pub tape_same : CarrySame (through (as_tape conditions) (of_tapes flags_in)) pair (above conditions) pair
  tape_same =
      elim (cases_Bool (is_condition pair.up)) [
        | inl is ↦
            let h = condition_in (length conditions) pair apart is in
            let inside : h.symbol.0 - first < length conditions = omega (arith, h.listed, h.from) in
            let r = held (h.symbol.0 - first) inside in
            let made : as_tape conditions pair ≡ Some (on_side r.0.run (h.symbol.0 - first)) =
            cond-true (is_condition pair.up) (flag_at conditions pair.up) (Some (OfPair pair)) is
            ∙ ap (flag_at conditions) h.up
            ∙ ap (option_map (λ (c : Condition). on_side c.run (h.symbol.0 - first))) r.1 in
            through_some (as_tape conditions) (of_tapes flags_in) (above conditions) pair (on_side r.0.run (h.symbol.0 - first)) made (on_run h.symbol r.0 h.up h.from h.low r.1 r.0.run refl)
        | inr is ↦
            let made : as_tape conditions pair ≡ Some (OfPair pair) = cond-false (is_condition pair.up) (flag_at conditions pair.up) (Some (OfPair pair)) is in
            through_some (as_tape conditions) (of_tapes flags_in) (above conditions) pair (OfPair pair) made
            (record {
              upper = append-nil (option_to_list pair.up) ∙ sym (plain_letters pair.up is);
              lower = append-nil (option_to_list pair.low);
              top = sym (plain_flags Upper conditions pair.up is);
              bottom = sym (plain_flags Lower conditions pair.up is);
            })
      ]

-- flags of tapes as conditions
module _ (flags : List FlagOp) (fits : first + (length flags + length flags) ≤ most) where
  abbrev pub conditions_for : List Condition
  conditions_for = map (condition_of Upper) flags ++ map (condition_of Lower) flags

  module _ (n : ℕ) (f : FlagOp) (at : slice_get flags n ≡ Some f) where
    inside : n < length flags
    inside = slice_get_within flags n f at

    upper_place : slice_get conditions_for ((first + n) - first) ≡ Some (condition_of Upper f)
    upper_place =
        let place : (first + n) - first ≡ n = omega arith in
        let before : n < length (map (condition_of Upper) flags) = omega (arith, inside, length-map flags (condition_of Upper)) in
        ap (slice_get conditions_for) place
        ∙ slice_get-append_left (map (condition_of Upper) flags) (map (condition_of Lower) flags) n before
        ∙ slice_get-map (condition_of Upper) flags n
        ∙ ap (option_map (condition_of Upper)) at

    lower_place : slice_get conditions_for (((first + length flags) + n) - first) ≡ Some (condition_of Lower f)
    lower_place =
        let place : ((first + length flags) + n) - first ≡ n + length (map (condition_of Upper) flags) = omega (arith, length-map flags (condition_of Upper)) in
        ap (slice_get conditions_for) place
        ∙ slice_get-append_right (map (condition_of Upper) flags) (map (condition_of Lower) flags) n
        ∙ slice_get-map (condition_of Lower) flags n
        ∙ ap (option_map (condition_of Lower)) at

    pair_is : (from : ℕ) → from ≤ first + length flags → condition_pair (length flags) from n ≡ Some (record { up = Some (record { 0 = from + n }); low = None })
    pair_is from small =
        let bounded : min (from + n) most ≡ from + n = omega (arith, small, inside, fits) in
        cond-true (nat_lt n (length flags)) (Some (record { up = Some (record { 0 = min (from + n) most }); low = None })) None (lt-ltb n (length flags) inside)
        ∙ ap (λ (k : ℕ). Some (record { up = Some (record { 0 = k }); low = None })) bounded

    flags_are : (run own : Run) (from : ℕ) → first ≤ from → slice_get conditions_for ((from + n) - first) ≡ Some (condition_of own f) → flags_of run conditions_for (record { 0 = from + n } ∷ []) ≡ flag_in run (condition_of own f)
    flags_are run own from far there = flags_at run conditions_for (record { 0 = from + n }) (condition_of own f) (omega (arith, far)) there

    no_letters : (from : ℕ) → first ≤ from → letters_of (record { 0 = from + n } ∷ []) ≡ []
    no_letters from far = condition_letters (Some (record { 0 = from + n })) (is_one (record { 0 = from + n }) (omega (arith, far)))

  not_there : (from n : ℕ) → length flags ≤ n → condition_pair (length flags) from n ≡ None
  not_there from n past = cond-false (nat_lt n (length flags)) (Some (record { up = Some (record { 0 = min (from + n) most }); low = None })) None (le-ltb n (length flags) past)

  abbrev pub as_pairs : Tape → Option Pair
  as_pairs tape = as_pair (length flags) (first + length flags) tape

  pub pair_same : (tape : Tape) → ((pair : Pair) → tape ≡ OfPair pair → is_plain (Some pair) ≡ true) → CarrySame (through as_pairs (above conditions_for)) tape (of_tapes flags) tape
  pair_same (OfPair pair) plain =
      let parts = and_parts (not (is_condition pair.up)) (not (is_condition pair.low)) (plain pair refl) in
      let up = not-true (is_condition pair.up) parts.0 in
      through_some as_pairs (above conditions_for) (of_tapes flags) (OfPair pair) pair refl
      (record {
        upper = plain_letters pair.up up ∙ sym (append-nil (option_to_list pair.up));
        lower = sym (append-nil (option_to_list pair.low));
        top = plain_flags Upper conditions_for pair.up up;
        bottom = plain_flags Lower conditions_for pair.up up;
      })
  pair_same (UpFlag n) plain =
      elim ((slice_get_cases flags n).1) [
        | inl there ↦
            through_some as_pairs (above conditions_for) (of_tapes flags) (UpFlag n) (record { up = Some (record { 0 = first + n }); low = None }) (pair_is n there.0 there.2 first (omega arith))
            (record {
              upper = no_letters n there.0 there.2 first (omega arith);
              lower = refl;
              top = flags_are n there.0 there.2 Upper Upper first (omega arith) (upper_place n there.0 there.2) ∙ sym (numbered_at flags n there.0 there.2);
              bottom = flags_are n there.0 there.2 Lower Upper first (omega arith) (upper_place n there.0 there.2);
            })
        | inr past ↦ through_none as_pairs (above conditions_for) (of_tapes flags) (UpFlag n) (not_there first n past.0) refl refl (numbered_past flags n past.1) refl
      ]
  pair_same (LowFlag n) plain =
      elim ((slice_get_cases flags n).1) [
        | inl there ↦
            let from = first + length flags in
            through_some as_pairs (above conditions_for) (of_tapes flags) (LowFlag n) (record { up = Some (record { 0 = from + n }); low = None }) (pair_is n there.0 there.2 from (omega arith))
            (record {
              upper = no_letters n there.0 there.2 from (omega arith);
              lower = refl;
              top = flags_are n there.0 there.2 Upper Lower from (omega arith) (lower_place n there.0 there.2);
              bottom = flags_are n there.0 there.2 Lower Lower from (omega arith) (lower_place n there.0 there.2) ∙ sym (numbered_at flags n there.0 there.2);
            })
        | inr past ↦ through_none as_pairs (above conditions_for) (of_tapes flags) (LowFlag n) (not_there (first + length flags) n past.0) refl refl refl (numbered_past flags n past.1)
      ]
