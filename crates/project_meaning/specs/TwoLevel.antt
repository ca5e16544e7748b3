-- What a two-level rule asks of a string of pairs (Koskenniemi, Two-level Morphology, 1983). A pair has an upper and a lower symbol,
-- either of which may be nothing, and `Holds` says whether one of the rule's contexts holds between the pairs before a place and
-- those behind it.
use Rattle.std.specs.Prelude.{◌≡◌, ◌≢◌, List, ◌∷◌, ◌++◌, Option, None}
use Rattle.regex_ast.specs.declared.twolc.RuleKind.{RuleKind}
use Rattle.regex_ast.specs.declared.twolc.RuleKind.TheVariants.{Only, Must, Both, Never}

module _ {X S : Type 0} (up low : X → Option S) (Holds : List X → List X → Type 0) where
  -- `=>`: the pair stands in a context everywhere
  abbrev pub KeepsOnly : X → List X → Type 0
  KeepsOnly centre p = (x z : List X) → p ≡ x ++ centre ∷ z → Holds x z

  -- `<=`: in no context the upper symbol has another lower one; and for a pair that inserts, no context holds with nothing between
  abbrev pub KeepsMust : X → List X → Type 0
  KeepsMust centre p =
      ((x z : List X) (other : X) → p ≡ x ++ other ∷ z → up other ≡ up centre → low other ≢ low centre → Holds x z → ⊥)
      × (up centre ≡ None → (x z : List X) → p ≡ x ++ z → Holds x z → ⊥)

  -- `/<=`: the pair stands in no context
  abbrev pub KeepsNever : X → List X → Type 0
  KeepsNever centre p = (x z : List X) → p ≡ x ++ centre ∷ z → Holds x z → ⊥

  -- `<=>` asks both of the first two
  abbrev pub KeepsBy : RuleKind → X → List X → Type 0
  KeepsBy Only centre p = KeepsOnly centre p
  KeepsBy Must centre p = KeepsMust centre p
  KeepsBy Both centre p = KeepsOnly centre p × KeepsMust centre p
  KeepsBy Never centre p = KeepsNever centre p
