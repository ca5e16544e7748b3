-- One letter: whether it is a condition, and what flags it has.
use Rattle.std.proofs.Common.{◌≡◌, ◌<◌, ◌≤◌, ◌+◌, ◌-◌, ◌⊎◌, ◌↔◌, ℕ, Bool, true, false, not, cond, List, [], ◌∷◌, ◌++◌, Option, Some, None, length, refl, sym, ap, subst, inl, inr, ◌∙◌, append-nil, arith}
use Rattle.std.specs.Prelude.{slice_get}
use Rattle.std.specs.List.{Contains, flat_map}
use Rattle.std.specs.Option.{option_to_list}
use Rattle.std.proofs.lemmas.Bool.{ltb-true, ltb-false, not-true, not-false, false≢true}
use Rattle.std.proofs.lemmas.Option.{same_Some}
use Rattle.fsm_base.specs.declared.letters.Sym.{Sym}
use Rattle.fsm_base.specs.declared.letters.Pair.{Pair}
use Rattle.word_relations.proofs.Members.{Contains-nil_cases, Contains-cons_cases}
use Rattle.fsa.specs.Automaton.{Automaton, UsesLetter}
use Rattle.fsa.specs.Language.{AcceptsFrom, stop, read, skip}
use Rattle.fst_flagged.specs.declared.condition.Condition.{Condition}
use Rattle.fst_flagged.specs.declared.condition.Run.{Run}
use Rattle.fst_flagged.specs.Conditions.{first, is_letter, letters_of, flag_in, flags_of}
use Rattle.fst_flagged.specs.Flagged.{FlaggedView, StandApart}
use Rattle.fst_flagged.specs.Images.{is_condition}
use Rattle.fst_flagged.proofs.Words.{letter_below, condition_from, letters-letter, letters-condition, flags-letter}

-- the letters of an accepted word are used
pub accepted_letter : {L : Type 0} {m : Automaton L} {p : ℕ} {w : List L} → AcceptsFrom m p w → (x : L) → Contains w x → UsesLetter m x
accepted_letter (stop f) x among = absurd (Contains-nil_cases x among)
accepted_letter {L} {m} (read {p = p} {q = q} {x = y} {w = w} has rest) x among =
    elim (Contains-cons_cases y w x among) as (λ _. UsesLetter m x) [
      | inl is ↦ subst (UsesLetter m) is (record { from = p; letter = Some y; to = q }, has, refl)
      | inr behind ↦ accepted_letter rest x behind
    ]
accepted_letter (skip has rest) x among = accepted_letter rest x among

-- a side without a condition
pub plain_below : (o : Option Sym) → is_condition o ≡ false → (x : Sym) → o ≡ Some x → x.0 < first
plain_below o plain x is = ltb-true x.0 first (not-false (is_letter x) (sym (ap is_condition is) ∙ plain))

pub condition_above : (o : Option Sym) → is_condition o ≡ true → (x : Sym) → o ≡ Some x → first ≤ x.0
condition_above o is_one x is = ltb-false x.0 first (not-true (is_letter x) (sym (ap is_condition is) ∙ is_one))

pub is_one : (x : Sym) → first ≤ x.0 → is_condition (Some x) ≡ true
is_one x from = ap not (condition_from x from)

pub plain_from : (o : Option Sym) → ((x : Sym) → o ≡ Some x → x.0 < first) → is_condition o ≡ false
plain_from None below = refl
plain_from (Some x) below = ap not (letter_below x (below x refl))

pub plain_letters : (o : Option Sym) → is_condition o ≡ false → letters_of (option_to_list o) ≡ option_to_list o
plain_letters None plain = refl
plain_letters (Some x) plain = letters-letter x (not-false (is_letter x) plain)

pub plain_flags : (run : Run) (conditions : List Condition) (o : Option Sym) → is_condition o ≡ false → flags_of run conditions (option_to_list o) ≡ []
plain_flags run conditions None plain = refl
plain_flags run conditions (Some x) plain = flags-letter run conditions x (not-false (is_letter x) plain)

pub condition_letters : (o : Option Sym) → is_condition o ≡ true → letters_of (option_to_list o) ≡ []
condition_letters None is = refl
condition_letters (Some x) is = letters-condition x (not-true (is_letter x) is)

-- the flags of a condition that is in the list
pub flags_at : (run : Run) (conditions : List Condition) (x : Sym) (c : Condition) → first ≤ x.0 → slice_get conditions (x.0 - first) ≡ Some c → flags_of run conditions (x ∷ []) ≡ flag_in run c
flags_at run conditions x c from at =
    ap (λ (b : Bool). flat_map (flag_in run) (cond b [] (option_to_list (slice_get conditions (x.0 - first))) ++ [])) (condition_from x from)
    ∙ ap (λ (o : Option Condition). flat_map (flag_in run) (option_to_list o ++ [])) at
    ∙ append-nil (flag_in run c)

-- the same condition in another list
pub flags_moved : (run : Run) (conditions others : List Condition) (x y : Sym) → first ≤ x.0 → first ≤ y.0 → slice_get conditions (x.0 - first) ≡ slice_get others (y.0 - first) → flags_of run conditions (x ∷ []) ≡ flags_of run others (y ∷ [])
flags_moved run conditions others x y from from' same =
    ap (λ (b : Bool). flat_map (flag_in run) (cond b [] (option_to_list (slice_get conditions (x.0 - first))) ++ [])) (condition_from x from)
    ∙ ap (λ (o : Option Condition). flat_map (flag_in run) (option_to_list o ++ [])) same
    ∙ sym (ap (λ (b : Bool). flat_map (flag_in run) (cond b [] (option_to_list (slice_get others (y.0 - first))) ++ [])) (condition_from y from'))

-- a pair whose condition stands apart
pub record Apart (count : ℕ) (pair : Pair) : Type 0 where
  pub lower : (x : Sym) → pair.low ≡ Some x → x.0 < first
  pub alone : (x : Sym) → pair.up ≡ Some x → first ≤ x.0 → pair.low ≡ None
  pub listed : (x : Sym) → pair.up ≡ Some x → x.0 < first + count

pub apart_of : (f : FlaggedView) → StandApart f → (pair : Pair) → UsesLetter f.net pair → Apart (length f.conditions) pair
apart_of f stand pair uses = record {
  lower = λ x is. stand.lower x (pair, uses, is);
  alone = λ x is from. stand.alone pair x uses is from;
  listed = λ x is. stand.listed x (pair, uses, is);
}

pub stand_from : (m : Automaton Pair) (conditions : List Condition) → ((pair : Pair) → UsesLetter m pair → Apart (length conditions) pair) → StandApart (record { net = m; conditions = conditions })
stand_from m conditions apart = record {
  lower = λ x (pair, uses, is). (apart pair uses).lower x is;
  alone = λ pair x uses is from. (apart pair uses).alone x is from;
  listed = λ x (pair, uses, is). (apart pair uses).listed x is;
}

-- its upper side has no condition, or one with nothing below
pub record HasCondition (count : ℕ) (pair : Pair) : Type 0 where
  pub symbol : Sym
  pub up : pair.up ≡ Some symbol
  pub from : first ≤ symbol.0
  pub listed : symbol.0 < first + count
  pub low : pair.low ≡ None

has_symbol : (o : Option Sym) → is_condition o ≡ true → (x : Sym) × (o ≡ Some x)
has_symbol None is = absurd (false≢true is)
has_symbol (Some x) is = (x, refl)

pub condition_in : (count : ℕ) (pair : Pair) → Apart count pair → is_condition pair.up ≡ true → HasCondition count pair
condition_in count pair apart is =
    let x = has_symbol pair.up is in
    let from = condition_above pair.up is x.0 x.1 in
    record { symbol = x.0; up = x.1; from = from; listed = apart.listed x.0 x.1; low = apart.alone x.0 x.1 from }

pub plain_low : (count : ℕ) (pair : Pair) → Apart count pair → is_condition pair.low ≡ false
plain_low count pair apart = plain_from pair.low apart.lower
