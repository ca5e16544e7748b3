-- Rules turned round: each language is read backwards, what stands before and behind is exchanged.
use Rattle.std.specs.Prelude.{◌≡◌, ◌↔◌, List, Option, Some, None, Contains, reverse}
use Rattle.fsa.specs.Complete.{Complete, Accepts}
use Rattle.replace_rules.specs.declared.rules.LangMap.{LangMap}
use Rattle.replace_rules.specs.declared.rules.LangContext.{LangContext}

-- over the same letters, the words read backwards
pub record IsTurned {L : Type 0} (a b : Complete L) : Type 0 where
  pub letters : b.letters ≡ a.letters
  pub words : (w : List L) → Accepts b w ↔ Accepts a (reverse w)

-- what a mapping puts: a word, or one before the centre and one behind
abbrev pub ArePutsTurned : {L : Type 0} → Complete L → Option (Complete L) → Complete L → Option (Complete L) → Type 0
ArePutsTurned result None result' None = IsTurned result result'
ArePutsTurned result None result' (Some after') = ⊥
ArePutsTurned result (Some after) result' None = ⊥
ArePutsTurned result (Some after) result' (Some after') = IsTurned result after' × IsTurned after result'

pub record IsTurnedMap (m n : LangMap) : Type 0 where
  pub centre : IsTurned m.centre n.centre
  pub puts : ArePutsTurned m.result m.after n.result n.after

pub record IsTurnedContext (c d : LangContext) : Type 0 where
  pub left : IsTurned c.right d.left
  pub right : IsTurned c.left d.right

-- each of the one list has its like in the other
pub record AreMatched {X : Type 0} (R : X → X → Type 0) (xs ys : List X) : Type 0 where
  pub there : (x : X) → Contains xs x → (y : X) × Contains ys y × R x y
  pub back : (y : X) → Contains ys y → (x : X) × Contains xs x × R x y
