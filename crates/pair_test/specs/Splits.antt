-- Where a string of pairs breaks a two-level rule (Koskenniemi, Two-level Morphology, 1983). A string is split at a pair, or at a
-- gap, where nothing stands between two parts: the filling of the split is that pair or nothing. A pair has an upper and a lower
-- symbol, either of which may be nothing, and `Holds` says whether one of the rule's contexts holds between the parts before and
-- behind the filling.
use Rattle.std.specs.Prelude.{◌≡◌, ◌≢◌, ◌⊎◌, ◌+◌, ℕ, List, ◌++◌, Option, None, Some, length}
use Rattle.std.specs.Option.{option_to_list}
use Rattle.regex_ast.specs.declared.twolc.RuleKind.{RuleKind}
use Rattle.regex_ast.specs.declared.twolc.RuleKind.TheVariants.{Only, Must, Both, Never}

-- `=>` and `<=>`: the rule's pair has to stand in a context
abbrev pub NeedsContext : {X : Type 0} → RuleKind → X → Option X → Type 0
NeedsContext Only centre filling = filling ≡ Some centre
NeedsContext Must centre filling = ⊥
NeedsContext Both centre filling = filling ≡ Some centre
NeedsContext Never centre filling = ⊥

module _ {X S : Type 0} (up low : X → Option S) where
  -- another pair with the same upper symbol, and nothing where the rule's pair inserts
  abbrev pub IsOther : X → Option X → Type 0
  IsOther centre None = up centre ≡ None
  IsOther centre (Some other) = (up other ≡ up centre) × (low other ≢ low centre)

  -- `<=` and `<=>` bar those from a context, and `/<=` bars the rule's pair
  abbrev pub IsBarred : RuleKind → X → Option X → Type 0
  IsBarred Only centre filling = ⊥
  IsBarred Must centre filling = IsOther centre filling
  IsBarred Both centre filling = IsOther centre filling
  IsBarred Never centre filling = filling ≡ Some centre

  -- a filling is bad where the rule asks for a context and none holds, or where a context holds and the rule bars the filling from it
  abbrev pub IsBad : RuleKind → X → Option X → Type 0 → Type 0
  IsBad kind centre filling InContext = (NeedsContext kind centre filling × ¬ InContext) ⊎ (IsBarred kind centre filling × InContext)

  -- the string has a bad split at a place. Places are counted from 1: before the filling at place 1 stands nothing
  abbrev pub IsBrokenAt : (List X → List X → Type 0) → RuleKind → X → List X → ℕ → Type 0
  IsBrokenAt Holds kind centre p place =
      (x : List X) × (filling : Option X) × (z : List X) × (p ≡ x ++ (option_to_list filling ++ z)) × (place ≡ length x + 1)
      × IsBad kind centre filling (Holds x z)

  -- the string has a bad split
  abbrev pub IsBroken : (List X → List X → Type 0) → RuleKind → X → List X → Type 0
  IsBroken Holds kind centre p = (place : ℕ) × IsBrokenAt Holds kind centre p place
