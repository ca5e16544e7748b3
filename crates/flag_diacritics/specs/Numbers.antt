-- Features and values by numbers: a feature is a place in a list of what each feature is now, a value the number of its text.
use Rattle.std.specs.Prelude.{◌≡◌, ℕ, Bool, cond, List, Option, None, Some, nat_eq, length, slice_get, slice_set, slice_index_or}
use Rattle.word_relations.specs.Words.{IsDistinct}
use Rattle.regex_ast.specs.declared.lexc.FlagKind.{FlagKind}
use Rattle.regex_ast.specs.declared.lexc.FlagOp.{FlagOp}
use Rattle.flag_diacritics.specs.declared.tape.Tape.{Tape}
use Rattle.flag_diacritics.specs.declared.tape.Tape.TheVariants.{Pair as OfPair, UpFlag, LowFlag}
use Rattle.project_meaning.specs.Settings.{Setting as SettingOf, neutral, has, barred, passes, setting_behind}
use Rattle.flag_diacritics.specs.declared.actions.Action.{Action}
use Rattle.flag_diacritics.specs.declared.setting.Setting.{Setting}
use Rattle.flag_diacritics.specs.declared.setting.Setting.TheVariants.{Neutral, Has, Barred}

-- what stood at a place stands there
abbrev pub Keeps : {X : Type 0} → List X → List X → Type 0
Keeps {X} old new = (k : ℕ) (x : X) → slice_get old k ≡ Some x → slice_get new k ≡ Some x

-- the number is that of the value, or there is neither
abbrev pub IsValue : List (List ℕ) → Option ℕ → Option (List ℕ) → Type 0
IsValue values None None = Unit {0}
IsValue values None (Some text) = ⊥
IsValue values (Some number) None = ⊥
IsValue values (Some number) (Some text) = slice_get values number ≡ Some text

-- what a feature is, by the number of a value, is this by the value
abbrev pub IsSetting : List (List ℕ) → Setting → SettingOf (List ℕ) → Type 0
IsSetting values Neutral neutral = Unit {0}
IsSetting values Neutral (has text) = ⊥
IsSetting values Neutral (barred text) = ⊥
IsSetting values (Has number) neutral = ⊥
IsSetting values (Has number) (has text) = slice_get values number ≡ Some text
IsSetting values (Has number) (barred text) = ⊥
IsSetting values (Barred number) neutral = ⊥
IsSetting values (Barred number) (has text) = ⊥
IsSetting values (Barred number) (barred text) = slice_get values number ≡ Some text

-- the action does by numbers what the flag does
pub record StandsFor (features values : List (List ℕ)) (flag : FlagOp) (action : Action) : Type 0 where
  pub kind : action.kind ≡ flag.kind
  pub feature : slice_get features action.feature ≡ Some flag.feature
  pub value : IsValue values action.value flag.value

-- there is an action for each of these flags
abbrev pub AllStand : List (List ℕ) → List (List ℕ) → List FlagOp → List Action → Type 0
AllStand features values flags actions = (n : ℕ) (f : FlagOp) → slice_get flags n ≡ Some f → (a : Action) × (slice_get actions n ≡ Some a) × StandsFor features values f a

-- the actions of flags, and each feature and each value has one number
pub record AreActions (features values : List (List ℕ)) (flags : List FlagOp) (actions : List Action) : Type 0 where
  pub features_once : IsDistinct features
  pub values_once : IsDistinct values
  pub count : length actions ≡ length flags
  pub stand : AllStand features values flags actions

-- what a feature is, in the table of flags and in the program
abbrev pub setting_of : Setting → SettingOf ℕ
setting_of Neutral = neutral
setting_of (Has value) = has value
setting_of (Barred value) = barred value

abbrev pub from_setting : SettingOf ℕ → Setting
from_setting neutral = Neutral
from_setting (has value) = Has value
from_setting (barred value) = Barred value

-- whether a flag passes where its feature is this, and what the feature is behind it: the table of flags, at numbers
abbrev pub passes_by : Setting → FlagKind → Option ℕ → Bool
passes_by now kind value = passes nat_eq (setting_of now) kind value

abbrev pub setting_by : Setting → FlagKind → Option ℕ → Setting
setting_by now kind value = from_setting (setting_behind (setting_of now) kind value)

-- what the features are behind a flag, if it passes
abbrev pub behind_action : List Setting → Action → Option (List Setting)
behind_action now a =
    cond (passes_by (slice_index_or now a.feature Neutral) a.kind a.value)
    (Some (slice_set now a.feature (setting_by (slice_index_or now a.feature Neutral) a.kind a.value)))
    None

-- the flag with a number; one that isn't there changes nothing
abbrev pub behind_if : List Setting → Option Action → Option (List Setting)
behind_if now None = Some now
behind_if now (Some a) = behind_action now a

-- the list with a number, if there is one
abbrev pub IsNumbered : List (List Setting) → Option ℕ → Option (List Setting) → Type 0
IsNumbered lists None None = Unit {0}
IsNumbered lists None (Some list) = ⊥
IsNumbered lists (Some number) None = ⊥
IsNumbered lists (Some number) (Some list) = slice_get lists number ≡ Some list

-- what the features of the two sides are
pub record Features : Type 0 where
  pub upper : List Setting
  pub lower : List Setting

abbrev pub with_upper : Features → Option (List Setting) → Option Features
with_upper now None = None
with_upper now (Some upper) = Some (record { upper = upper; lower = now.lower })

abbrev pub with_lower : Features → Option (List Setting) → Option Features
with_lower now None = None
with_lower now (Some lower) = Some (record { upper = now.upper; lower = lower })

-- what they are behind a letter, if its flag passes
abbrev pub behind_letter : List Action → Tape → Features → Option Features
behind_letter actions (OfPair pair) now = Some now
behind_letter actions (UpFlag n) now = with_upper now (behind_if now.upper (slice_get actions n))
behind_letter actions (LowFlag n) now = with_lower now (behind_if now.lower (slice_get actions n))

-- and behind an edge's letter, if it has one
abbrev pub behind : List Action → Option Tape → Features → Option Features
behind actions None now = Some now
behind actions (Some letter) now = behind_letter actions letter now
