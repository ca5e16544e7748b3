-- The conditions of a word hold where its tape's flags pass.
use Rattle.std.proofs.Common.{◌≡◌, ℕ, ◌-◌, ◌↔◌, Bool, true, false, cond, List, [], ◌∷◌, ◌++◌, Option, None, Some, map, length, refl, sym, ap, subst, ◌∙◌}
use Rattle.std.specs.Prelude.{slice_get, replicate, IsTrue}
use Rattle.std.specs.List.{flat_map}
use Rattle.std.specs.Option.{option_map, option_to_list}
use Rattle.std.proofs.lemmas.List.Concat.{flat_map-append}
use Rattle.std.proofs.lemmas.Option.{slice_get-map}
use Rattle.fsm_base.specs.declared.letters.Pair.{Pair}
use Rattle.fsm_base.specs.declared.letters.Sym.{Sym}
use Rattle.regex_ast.specs.declared.lexc.FlagOp.{FlagOp}
use Rattle.project_meaning.specs.Trees.{Piece, flag}
use Rattle.project_meaning.specs.Lexicons.{flags_pass}
use Rattle.flag_diacritics.specs.Numbers.{AreActions, Features, behind_letter}
use Rattle.flag_diacritics.specs.Tapes.{FlagsPass, flag_of, lower_flag, numbered, pair_in, pairs_of, upper_flag}
use Rattle.flag_diacritics.specs.declared.actions.Action.{Action}
use Rattle.flag_diacritics.specs.declared.setting.Setting.TheVariants.{Neutral}
use Rattle.flag_diacritics.specs.declared.tape.Tape.{Tape}
use Rattle.flag_diacritics.specs.declared.tape.Tape.TheVariants.{Pair as OfPair, UpFlag, LowFlag}
use Rattle.flag_diacritics.proofs.Passing.{Runs, runs_from_start}
use Rattle.fst_algebra.specs.Relation.{lowers, uppers}
use Rattle.fst_flagged.specs.Conditions.{Hold, condition_at, first, flag_in, flags_of, is_letter, is_run, letter_at, letters_of}
use Rattle.fst_flagged.specs.declared.condition.Condition.{Condition}
use Rattle.fst_flagged.specs.declared.condition.Run.{Run}
use Rattle.fst_flagged.specs.declared.condition.Run.TheVariants.{Upper, Lower}
use Rattle.flag_runs.specs.Runs.{AreRules, Passes, RulesView, behind_by, flag_at, flag_on, flags_in, tape_of}

-- what a list of conditions says of a symbol's flags and pairs
module _ (conditions : List Condition) where
  abbrev flags : List FlagOp
  flags = flags_in conditions

  told_at : (o : Option Condition) (n : ℕ) → slice_get flags n ≡ option_map (λ (c : Condition). c.flag) o → numbered flags n ≡ map (λ f. flag (flag_of f)) (option_to_list (option_map (λ (c : Condition). c.flag) o))
  told_at o n e = ap (λ (g : Option FlagOp). map (λ f. flag (flag_of f)) (option_to_list g)) e

  upper_at : (o : Option Condition) (n : ℕ) → slice_get flags n ≡ option_map (λ (c : Condition). c.flag) o → upper_flag flags (flag_at o n) ≡ flat_map (flag_in Upper) (option_to_list o)
  upper_at None n e = told_at None n e
  upper_at (Some c) n e = elim c.run as (λ r. upper_flag flags (flag_on r n) ≡ cond (is_run Upper r) (flag (flag_of c.flag) ∷ []) [] ++ []) [ Upper ↦ told_at (Some c) n e | Lower ↦ refl ]

  lower_at : (o : Option Condition) (n : ℕ) → slice_get flags n ≡ option_map (λ (c : Condition). c.flag) o → lower_flag flags (flag_at o n) ≡ flat_map (flag_in Lower) (option_to_list o)
  lower_at None n e = refl
  lower_at (Some c) n e = elim c.run as (λ r. lower_flag flags (flag_on r n) ≡ cond (is_run Lower r) (flag (flag_of c.flag) ∷ []) [] ++ []) [ Upper ↦ refl | Lower ↦ told_at (Some c) n e ]

  no_pair_at : (o : Option Condition) (n : ℕ) → pair_in (flag_at o n) ≡ []
  no_pair_at None n = refl
  no_pair_at (Some c) n = elim c.run as (λ r. pair_in (flag_on r n) ≡ []) [ Upper ↦ refl | Lower ↦ refl ]

  module _ (s : Sym) where
    abbrev place : ℕ
    place = s.0 - first

    flag_there : slice_get flags place ≡ option_map (λ (c : Condition). c.flag) (slice_get conditions place)
    flag_there = slice_get-map (λ (c : Condition). c.flag) conditions place

    abbrev pair : Pair
    pair = record { up = Some s; low = None }

    upper_is : upper_flag flags (tape_of conditions s) ≡ flat_map (flag_in Upper) (condition_at conditions s)
    upper_is =
        elim (is_letter s) as (λ b. upper_flag flags (cond b (OfPair pair) (flag_at (slice_get conditions place) place)) ≡ flat_map (flag_in Upper) (cond b [] (option_to_list (slice_get conditions place)))) [
          | true ↦ refl
          | false ↦ upper_at (slice_get conditions place) place flag_there
        ]

    lower_is : lower_flag flags (tape_of conditions s) ≡ flat_map (flag_in Lower) (condition_at conditions s)
    lower_is =
        elim (is_letter s) as (λ b. lower_flag flags (cond b (OfPair pair) (flag_at (slice_get conditions place) place)) ≡ flat_map (flag_in Lower) (cond b [] (option_to_list (slice_get conditions place)))) [
          | true ↦ refl
          | false ↦ lower_at (slice_get conditions place) place flag_there
        ]

    pairs_up : uppers (pair_in (tape_of conditions s)) ≡ letter_at s
    pairs_up =
        elim (is_letter s) as (λ b. uppers (pair_in (cond b (OfPair pair) (flag_at (slice_get conditions place) place))) ≡ cond b (s ∷ []) []) [
          | true ↦ refl
          | false ↦ ap uppers (no_pair_at (slice_get conditions place) place)
        ]

    pairs_low : lowers (pair_in (tape_of conditions s)) ≡ []
    pairs_low =
        elim (is_letter s) as (λ b. lowers (pair_in (cond b (OfPair pair) (flag_at (slice_get conditions place) place))) ≡ []) [
          | true ↦ refl
          | false ↦ ap lowers (no_pair_at (slice_get conditions place) place)
        ]

  -- a word as a tape
  abbrev pub tape : List Sym → List Tape
  tape word = map (tape_of conditions) word

  uppers_are : (w : List Sym) → flat_map (upper_flag flags) (tape w) ≡ flags_of Upper conditions w
  uppers_are [] = refl
  uppers_are (s ∷ w) =
      ap (λ xs. xs ++ flat_map (upper_flag flags) (tape w)) (upper_is s)
      ∙ ap (λ xs. flat_map (flag_in Upper) (condition_at conditions s) ++ xs) (uppers_are w)
      ∙ sym (flat_map-append (flag_in Upper) (condition_at conditions s) (flat_map (condition_at conditions) w))

  lowers_are : (w : List Sym) → flat_map (lower_flag flags) (tape w) ≡ flags_of Lower conditions w
  lowers_are [] = refl
  lowers_are (s ∷ w) =
      ap (λ xs. xs ++ flat_map (lower_flag flags) (tape w)) (lower_is s)
      ∙ ap (λ xs. flat_map (flag_in Lower) (condition_at conditions s) ++ xs) (lowers_are w)
      ∙ sym (flat_map-append (flag_in Lower) (condition_at conditions s) (flat_map (condition_at conditions) w))

  pub passes_hold : (w : List Sym) → FlagsPass flags (tape w) ↔ Hold conditions w
  passes_hold w = (
    λ p. (sym (ap flags_pass (uppers_are w)) ∙ p.0, sym (ap flags_pass (lowers_are w)) ∙ p.1),
    λ h. (ap flags_pass (uppers_are w) ∙ h.0, ap flags_pass (lowers_are w) ∙ h.1),
  )

  -- the pairs of a word's tape have its letters above, and nothing below
  pub uppers_of : (w : List Sym) → uppers (pairs_of (tape w)) ≡ letters_of w
  uppers_of [] = refl
  uppers_of (s ∷ w) =
      flat_map-append (λ (p : Pair). option_to_list p.up) (pair_in (tape_of conditions s)) (pairs_of (tape w))
      ∙ ap (λ xs. xs ++ uppers (pairs_of (tape w))) (pairs_up s)
      ∙ ap (λ xs. letter_at s ++ xs) (uppers_of w)

  pub lowers_of : (w : List Sym) → lowers (pairs_of (tape w)) ≡ []
  lowers_of [] = refl
  lowers_of (s ∷ w) =
      flat_map-append (λ (p : Pair). option_to_list p.low) (pair_in (tape_of conditions s)) (pairs_of (tape w))
      ∙ ap (λ xs. xs ++ lowers (pairs_of (tape w))) (pairs_low s)
      ∙ lowers_of w

-- a letter changes nothing
pub behind_letter_is : (rules : RulesView) (values : Features) (s : Sym) → is_letter s ≡ true → behind_by rules values s ≡ Some values
behind_letter_is rules values s is =
    ap (λ b. behind_letter rules.actions (cond b (OfPair (record { up = Some s; low = None })) (flag_at (slice_get rules.conditions (s.0 - first)) (s.0 - first))) values) is

runs_are : (rules : RulesView) (values : Features) (w : List Sym) → Passes rules values w ↔ Runs rules.actions values (tape rules.conditions w)
runs_are rules values [] = (λ h. h, λ h. h)
runs_are rules values (s ∷ w) = (
  λ (next, is, rest). (next, is, (runs_are rules next w).0 rest),
  λ (next, is, rest). (next, is, (runs_are rules next w).1 rest),
)

-- each feature is neutral
abbrev pub neutral : ℕ → Features
neutral count = record { upper = replicate count Neutral; lower = replicate count Neutral }

-- from the start a word passes where its conditions hold
pub start_is : (rules : RulesView) (flags : List FlagOp) (count : ℕ) (values : Features) → AreRules rules.conditions flags rules.actions count → values ≡ neutral count → (w : List Sym) → Passes rules values w ↔ Hold rules.conditions w
start_is rules flags count values are is w =
    let from = runs_from_start are.features are.values flags rules.actions are.are (tape rules.conditions w) in
    let begins : values ≡ neutral (length are.features) = is ∙ ap neutral are.count_is in
    let to = passes_hold rules.conditions w in (
      λ p. to.0 (subst (λ fs. FlagsPass fs (tape rules.conditions w)) are.flags_are (from.0 (subst (λ v. Runs rules.actions v (tape rules.conditions w)) begins ((runs_are rules values w).0 p)))),
      λ h. (runs_are rules values w).1 (subst (λ v. Runs rules.actions v (tape rules.conditions w)) (sym begins) (from.1 (subst (λ fs. FlagsPass fs (tape rules.conditions w)) (sym are.flags_are) (to.1 h)))),
    )
