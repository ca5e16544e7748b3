-- The rule of a board: whoever knows which board's page is shown is right.
use Rattle.std.specs.Prelude.{◌≡◌, ℕ, List, Option, IfSome}
use mathlib.Core.Option.{some}
use lib.ListN.{get_elem?}
use Rattle.publish_board.specs.Published.{Board}

abbrev pub Knows : Board → Option Board → Type 0
Knows b known = IfSome known (λ a. a ≡ b)

abbrev pub AllKnow : Board → List (Option Board) → Type 0
AllKnow b views = (seat : ℕ) (known : Option Board) → get_elem? views seat ≡ some known → Knows b known
