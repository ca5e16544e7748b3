-- Derivations of which each replacement says by which place of the rules it is made.
use Rattle.std.specs.Prelude.{◌≡◌, ℕ, Bool, false, List, [], ◌∷◌, ◌++◌, map, All, Contains, Some, slice_get}
use Rattle.std.specs.List.{flat_map}
use Rattle.fsm_base.specs.declared.letters.Bound.TheVariants.{Edge, Inner}
use Rattle.fsm_base.specs.declared.letters.Sym.{Sym}
use Rattle.regex_ast.specs.declared.expr.Side.{Side}
use Rattle.regex_ast.specs.declared.expr.Side.TheVariants.{UpUp, LowUp, UpLow, LowLow}
use Rattle.replace_words.specs.Places.{Rules}

-- a copied symbol; or, by the place of this number, a centre that is replaced by a word, or put between two words
pub data Claim : Type 0 where
  copied : Sym → Claim
  replaced : ℕ → List Sym → List Sym → Claim
  marked : ℕ → List Sym → List Sym → List Sym → Claim

abbrev pub upper : Claim → List Sym
upper (copied s) = s ∷ []
upper (replaced k centre result) = centre
upper (marked k before centre after) = centre

abbrev pub lower : Claim → List Sym
lower (copied s) = s ∷ []
lower (replaced k centre result) = result
lower (marked k before centre after) = before ++ centre ++ after

abbrev pub left_side : Side → Claim → List Sym
left_side UpUp p = upper p
left_side LowUp p = lower p
left_side UpLow p = upper p
left_side LowLow p = lower p

abbrev pub right_side : Side → Claim → List Sym
right_side UpUp p = upper p
right_side LowUp p = upper p
right_side UpLow p = lower p
right_side LowLow p = lower p

abbrev pub IsBy : ℕ → Claim → Type 0
IsBy n (copied s) = ⊥
IsBy n (replaced k centre result) = n ≡ k
IsBy n (marked k before centre after) = n ≡ k

-- the place of the number is in the list and has this property
abbrev pub At : {A : Type 0} → List A → ℕ → (A → Type 0) → Type 0
At {A} xs k P = (x : A) × (slice_get xs k ≡ Some x) × P x

module _ {P : Type 0} (of : Rules P) (syms : List Sym) (places : List P) where
  abbrev pub IsClaim : Claim → Type 0
  IsClaim (copied s) = Contains syms s
  IsClaim (replaced k centre result) = At places k (λ p. of.replaces p centre result)
  IsClaim (marked k before centre after) = At places k (λ p. of.surrounds p before centre after)

  abbrev pub HoldsAt : P → List Claim → List Claim → Type 0
  HoldsAt p before behind = of.left p (Edge ∷ map Inner (flat_map (left_side (of.side p)) before)) × of.right p (map Inner (flat_map (right_side (of.side p)) behind) ++ Edge ∷ [])

  pub record IsClaimed (pieces : List Claim) : Type 0 where
    pub lawful : All IsClaim pieces
    pub in_context : (before : List Claim) (c : Claim) (behind : List Claim) (k : ℕ) (p : P) → pieces ≡ before ++ c ∷ behind → IsBy k c → slice_get places k ≡ Some p → HoldsAt p before behind

  abbrev pub IsObliged : List Claim → Type 0
  IsObliged pieces = (before : List Claim) (centre : List Sym) (behind : List Claim) (p : P) → pieces ≡ before ++ (map copied centre ++ behind) → Contains places p → of.centre p centre → HoldsAt p before behind → ⊥

  pub record Claims (optional : Bool) (u v : List Sym) : Type 0 where
    pub pieces : List Claim
    pub derives : IsClaimed pieces
    pub obligatory : optional ≡ false → IsObliged pieces
    pub uppers : flat_map upper pieces ≡ u
    pub lowers : flat_map lower pieces ≡ v
