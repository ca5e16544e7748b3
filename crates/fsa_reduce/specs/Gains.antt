-- What a list gains.
use Rattle.std.specs.Prelude.{◌⊎◌, List, Contains}

-- the elements that pass the test came in, and no others; those that were there stayed
pub record Gains {X : Type 0} (P : X → Type 0) (old new : List X) : Type 0 where
  pub kept : (x : X) → Contains old x → Contains new x
  pub only : (x : X) → Contains new x → Contains old x ⊎ P x
  pub all : (x : X) → P x → Contains new x

-- it came in for one of these
abbrev pub ForSome : {X Y : Type 0} → (Y → X → Type 0) → List Y → X → Type 0
ForSome {X} {Y} P items x = (item : Y) × Contains items item × P item x
