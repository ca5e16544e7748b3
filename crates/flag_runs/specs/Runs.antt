-- What the conditions of a word make of the features, symbol by symbol. A word is taken as a tape: a symbol of words as a pair with nothing
-- below it, and a condition as the flag of its run. What a flag does by numbers is told in flag_diacritics.
use Rattle.std.specs.Prelude.{◌≡◌, ◌-◌, ℕ, List, [], ◌∷◌, cond, map, length, slice_get, Option, None, Some}
use Rattle.fsm_base.specs.declared.letters.Sym.{Sym}
use Rattle.regex_ast.specs.declared.lexc.FlagOp.{FlagOp}
use Rattle.flag_diacritics.specs.Numbers.{AreActions, Features, behind_letter}
use Rattle.flag_diacritics.specs.declared.actions.Action.{Action}
use Rattle.flag_diacritics.specs.declared.tape.Tape.{Tape}
use Rattle.flag_diacritics.specs.declared.tape.Tape.TheVariants.{Pair as OfPair, UpFlag, LowFlag}
use Rattle.fst_flagged.specs.Conditions.{first, is_letter}
use Rattle.fst_flagged.specs.declared.condition.Condition.{Condition}
use Rattle.fst_flagged.specs.declared.condition.Run.{Run}
use Rattle.fst_flagged.specs.declared.condition.Run.TheVariants.{Upper, Lower}
use Rattle.flag_runs.specs.declared.values.Behind.{Behind}
use Rattle.flag_runs.specs.declared.values.Behind.TheVariants.{Refused, Stay, To}

-- the conditions, and what each does by numbers
pub record RulesView : Type 0 where
  pub conditions : List Condition
  pub actions : List Action

-- the flags of conditions
abbrev pub flags_in : List Condition → List FlagOp
flags_in conditions = map (λ c. c.flag) conditions

-- the actions are those of the conditions' flags, and so many features were numbered
pub record AreRules (conditions : List Condition) (flags : List FlagOp) (actions : List Action) (count : ℕ) : Type 0 where
  pub flags_are : flags ≡ flags_in conditions
  pub features : List (List ℕ)
  pub values : List (List ℕ)
  pub are : AreActions features values flags actions
  pub count_is : count ≡ length features

-- the flag of a condition, on the side of its run
abbrev pub flag_on : Run → ℕ → Tape
flag_on Upper number = UpFlag number
flag_on Lower number = LowFlag number

abbrev pub flag_at : Option Condition → ℕ → Tape
flag_at None number = UpFlag number
flag_at (Some condition) number = flag_on condition.run number

-- a symbol as a letter of a tape
abbrev pub tape_of : List Condition → Sym → Tape
tape_of conditions symbol = cond (is_letter symbol) (OfPair (record { up = Some symbol; low = None })) (flag_at (slice_get conditions (symbol.0 - first)) (symbol.0 - first))

-- what a symbol makes of the features, if it isn't a condition that doesn't hold
abbrev pub behind_by : RulesView → Features → Sym → Option Features
behind_by rules values symbol = behind_letter rules.actions (tape_of rules.conditions symbol) values

-- the conditions of a word hold one after another, from these features on
abbrev pub Passes : RulesView → Features → List Sym → Type 0
Passes rules values [] = Unit {0}
Passes rules values (symbol ∷ word) = (next : Features) × (behind_by rules values symbol ≡ Some next) × Passes rules next word

-- the features that are told
abbrev pub values_after : Features → Behind → Option Features
values_after values Refused = None
values_after values Stay = Some values
values_after values (To next) = Some next
