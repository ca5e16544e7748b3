-- Features that are idle at a state: whatever their values are there, paths go on alike, since each flag that tests one comes behind a
-- flag that sets it. Any table of features will do where it agrees with itself along each edge.
use Rattle.std.specs.Prelude.{◌≡◌, ◌<◌, ◌⊎◌, ℕ, Bool, true, false, cond, List, Option, None, Some, Contains, map, slice_get, slice_index_or, nat_eq}
use Rattle.std.specs.Int.{bit_at}
use Rattle.std.specs.List.{enumerate_from}
use Rattle.std.specs.Option.{option_map}
use Rattle.fsa.specs.declared.automaton.Edge.{Edge}
use Rattle.regex_ast.specs.declared.lexc.FlagKind.{FlagKind}
use Rattle.regex_ast.specs.declared.lexc.FlagKind.TheVariants.{P, N, C, R, D, U}
use Rattle.flag_diacritics.specs.declared.tape.Tape.{Tape}
use Rattle.flag_diacritics.specs.declared.tape.Tape.TheVariants.{Pair as OfPair, UpFlag, LowFlag}
use Rattle.flag_diacritics.specs.declared.actions.Action.{Action}
use Rattle.flag_diacritics.specs.declared.idle.Idle.{Idle}
use Rattle.flag_diacritics.specs.declared.setting.Setting.{Setting}
use Rattle.flag_diacritics.specs.declared.setting.Setting.TheVariants.{Neutral}
use Rattle.flag_diacritics.specs.Numbers.{Features, behind}

-- whether a flag asks what its feature is, and whether it sets it whatever it was
abbrev pub does_test : FlagKind → Bool
does_test P = false
does_test N = false
does_test C = false
does_test R = true
does_test D = true
does_test U = true

abbrev pub does_set : FlagKind → Bool
does_set P = true
does_set N = true
does_set C = true
does_set R = false
does_set D = false
does_set U = true

-- whether a feature is idle by a row of the table, which has a bit for each
abbrev pub is_idle : ℕ → ℕ → Bool
is_idle row feature = nat_eq (bit_at row feature) 1

-- the flag sets the feature, if there is a flag
abbrev pub Sets : Option Action → ℕ → Type 0
Sets None feature = ⊥
Sets (Some a) feature = (a.feature ≡ feature) × (does_set a.kind ≡ true)

-- the flag's feature isn't idle before it, if it tests it
abbrev pub TestsNone : ℕ → Option Action → Type 0
TestsNone row None = Unit {0}
TestsNone row (Some a) = does_test a.kind ≡ true → is_idle row a.feature ≡ false

-- the flag tests no idle feature, and what is idle before it is idle behind it or set by it
pub record KeepsIdle (action : Option Action) (before behind : ℕ) : Type 0 where
  pub tests : TestsNone before action
  pub stays : (feature : ℕ) → is_idle before feature ≡ true → (is_idle behind feature ≡ true) ⊎ Sets action feature

-- the flag that a letter has on its upper side, if it has one, and on its lower side
abbrev pub upper_action : List Action → Option Tape → Option Action
upper_action actions None = None
upper_action actions (Some (OfPair pair)) = None
upper_action actions (Some (UpFlag n)) = slice_get actions n
upper_action actions (Some (LowFlag n)) = None

abbrev pub lower_action : List Action → Option Tape → Option Action
lower_action actions None = None
lower_action actions (Some (OfPair pair)) = None
lower_action actions (Some (UpFlag n)) = None
lower_action actions (Some (LowFlag n)) = slice_get actions n

-- a state's rows of the table
abbrev pub upper_row : Idle → ℕ → ℕ
upper_row idle state = slice_index_or idle.upper.items state 0

abbrev pub lower_row : Idle → ℕ → ℕ
lower_row idle state = slice_index_or idle.lower.items state 0

-- the table agrees with itself along the edge
pub record IsIdleAlong (actions : List Action) (idle : Idle) (edge : Edge Tape) : Type 0 where
  pub upper : KeepsIdle (upper_action actions edge.letter) (upper_row idle edge.from) (upper_row idle edge.to)
  pub lower : KeepsIdle (lower_action actions edge.letter) (lower_row idle edge.from) (lower_row idle edge.to)

abbrev pub AreIdle : List Action → Idle → List (Edge Tape) → Type 0
AreIdle actions idle edges = (edge : Edge Tape) → Contains edges edge → IsIdleAlong actions idle edge

-- what features are, the idle ones being made neutral
abbrev pub masked : ℕ → List Setting → List Setting
masked row now = map (λ p. cond (is_idle row p.0) Neutral p.1) (enumerate_from 0 now)

-- a row has a bit for each feature that isn't neutral, but for those that no row has a bit for
abbrev pub HasSettled : ℕ → List Setting → Type 0
HasSettled row now = (feature : ℕ) → feature < 64 → bit_at row feature ≡ 0 → slice_index_or now feature Neutral ≡ Neutral

-- there is such a row for some of the lists
abbrev pub AreSettled : List (List Setting) → List ℕ → Type 0
AreSettled lists rows = (k row : ℕ) → slice_get rows k ≡ Some row → (now : List Setting) × (slice_get lists k ≡ Some now) × HasSettled row now

abbrev pub masked_at : Idle → ℕ → Features → Features
masked_at idle state now = record { upper = masked (upper_row idle state) now.upper; lower = masked (lower_row idle state) now.lower }

-- what the features are behind an edge, if its flag passes
abbrev pub behind_edge : List Action → Edge Tape → Features → Option Features
behind_edge actions edge now = behind actions edge.letter now

abbrev pub live_behind : List Action → Idle → Edge Tape → Features → Option Features
live_behind actions idle edge now = option_map (masked_at idle edge.to) (behind_edge actions edge now)
