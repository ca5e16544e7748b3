-- Places of rules, and what they rewrite (Karttunen, The Replace Operator, 1995; Kempe and Karttunen, Parallel Replacement
-- in Finite State Calculus, 1996). A place is where rules replace: one of the contexts of a group of rules with all the
-- mappings of the group, or the group where it has no contexts. What rules rewrite by pieces is defined in expr_meaning
-- (specs/Replacement.antt); here it is said of any places.
use Rattle.std.specs.Prelude.{◌≡◌, ◌⊎◌, Bool, List, [], ◌∷◌, ◌++◌, Contains}
use Rattle.fsm_base.specs.declared.letters.Bound.{Bound}
use Rattle.fsm_base.specs.declared.letters.Bound.TheVariants.{Edge}
use Rattle.fsm_base.specs.declared.letters.Sym.{Sym}
use Rattle.regex_ast.specs.declared.expr.Side.{Side}
use Rattle.expr_meaning.specs.Operators.{inner}
use Rattle.expr_meaning.specs.Replacement.{Piece, read_before, read_behind, IsRewritten}

-- what places are: their centres; by what they replace a centre; what they put before and behind a centre; on which sides
-- their contexts are read; and where these hold, of the word before with the edge in front, and of the word behind with the
-- edge at its end
pub record Rules (P : Type 0) : Type 1 where
  pub centre : P → List Sym → Type 0
  pub replaces : P → List Sym → List Sym → Type 0
  pub surrounds : P → List Sym → List Sym → List Sym → Type 0
  pub side : P → Side
  pub left : P → List (Bound Sym) → Type 0
  pub right : P → List (Bound Sym) → Type 0

-- no centre of the place is the empty word
pub record HasNoEmptyCentre {P : Type 0} (of : Rules P) (p : P) : Type 0 where
  pub centre : of.centre p [] → ⊥
  pub replaces : (result : List Sym) → of.replaces p [] result → ⊥
  pub surrounds : (before after : List Sym) → of.surrounds p before [] after → ⊥

module _ {P : Type 0} (of : Rules P) where
  -- the context of the place holds between the pieces
  abbrev pub HoldsBetween : P → List (Piece Sym) → List (Piece Sym) → Type 0
  HoldsBetween p before behind =
      of.left p (Edge ∷ inner (read_before (of.side p) before)) × of.right p (inner (read_behind (of.side p) behind) ++ Edge ∷ [])

  -- the place has the centre and the word by which it is replaced, or which it makes of it by words before and behind
  abbrev pub Makes : P → List Sym → List Sym → Type 0
  Makes p centre result =
      of.replaces p centre result ⊎ ((before : List Sym) × (after : List Sym) × (result ≡ before ++ (centre ++ after)) × of.surrounds p before centre after)

  module _ (places : List P) where
    -- one of the places replaces the centre by the result between these pieces, and one has the centre there
    abbrev pub ReplacesAt : List (Piece Sym) → List Sym → List Sym → List (Piece Sym) → Type 0
    ReplacesAt before centre result behind = (p : P) × Contains places p × Makes p centre result × HoldsBetween p before behind

    abbrev pub AppliesAt : List (Piece Sym) → List Sym → List (Piece Sym) → Type 0
    AppliesAt before centre behind = (p : P) × Contains places p × of.centre p centre × HoldsBetween p before behind

    -- the places relate the upper word to the lower word
    abbrev pub IsRewrittenAt : List Sym → Bool → List Sym → List Sym → Type 0
    IsRewrittenAt symbols optional u w = IsRewritten symbols ReplacesAt AppliesAt optional u w
