-- Rules that are made ready to be tried on strings: automata that run over a whole string, one from its beginning and one from its
-- end, and say at each place whether a part of a context holds there.
use Rattle.std.specs.Prelude.{◌≡◌, ◌⊎◌, ◌+◌, ℕ, Bool, List, [], ◌∷◌, ◌++◌, Contains, Option, drop, reverse, take}
use Rattle.fsm_base.specs.declared.letters.Pair.{Pair}
use Rattle.fsm_base.specs.declared.letters.Bound.{Bound}
use Rattle.fsm_base.specs.declared.letters.Bound.TheVariants.{Edge}
use Rattle.fsa.specs.Complete.{Accepts}
use Rattle.expr_meaning.specs.Operators.{inner}
use Rattle.pair_test.specs.Marks.{AreAt, IsMarked}
use Rattle.pair_test.specs.Splits.{IsBad, IsBrokenAt}
use Rattle.pair_test.specs.declared.ready.ContextTest.{ContextTest}
use Rattle.pair_test.specs.declared.ready.RuleTest.{RuleTest}
use Rattle.pair_test.specs.declared.spelled.Spelled.{Spelled}

-- the letters of the automata: the pairs, and behind them the edge
abbrev pub placed_letters : List Pair → List (Bound Pair)
placed_letters pairs = inner pairs ++ Edge ∷ []

-- an edge, and then the pairs
abbrev pub edge_before : List Pair → List (Bound Pair)
edge_before word = Edge ∷ inner word

-- the places of the string's letters, forwards and backwards with an edge before either, are those among these letters
pub record IsSpelled (letters : List (Bound Pair)) (s : Spelled) : Type 0 where
  pub forwards : AreAt letters s.forwards.items (edge_before s.word.now)
  pub backwards : AreAt letters s.backwards.items (edge_before (reverse s.word.now))

-- and the letters are those of the automata of a context
abbrev pub Fits : Spelled → ContextTest → Type 0
Fits s t = (letters : List (Bound Pair)) × IsSpelled letters s × (t.before.letters ≡ letters) × (t.behind.letters ≡ letters)

-- and those of all contexts of a rule
abbrev pub FitsRule : Spelled → RuleTest → Type 0
FitsRule s t = (c : ContextTest) → Contains t.contexts.items c → Fits s c

-- a context holds between two parts of a string: by its automata the part before, from its beginning, and the part behind, from its end
abbrev pub HoldsOne : ContextTest → List Pair → List Pair → Type 0
HoldsOne t x z = Accepts t.before (edge_before x) × Accepts t.behind (edge_before (reverse z))

-- one of the contexts holds there
abbrev pub HoldsBy : List ContextTest → List Pair → List Pair → Type 0
HoldsBy contexts x z = (t : ContextTest) × Contains contexts t × HoldsOne t x z

-- a number is marked already, or the context holds round the filling, of this width, that has so many pairs before it
abbrev pub IsMarkedOr : List Pair → ℕ → List Bool → ContextTest → ℕ → Type 0
IsMarkedOr word width marks t k = IsMarked marks k ⊎ HoldsOne t (take k word) (drop (k + width) word)

-- one of them holds round the filling, of this width, that has so many pairs before it
abbrev pub HoldsRound : List ContextTest → List Pair → ℕ → ℕ → Type 0
HoldsRound contexts word width k = HoldsBy contexts (take k word) (drop (k + width) word)

-- the string breaks the rule at a place
abbrev pub IsBrokenBy : List Pair → RuleTest → ℕ → Type 0
IsBrokenBy word t place = IsBrokenAt (λ x. x.up) (λ x. x.low) (HoldsBy t.contexts.items) t.kind t.pair word place

-- a filling is bad for the rule where contexts hold or don't
abbrev pub IsBadFor : RuleTest → Option Pair → Type 0 → Type 0
IsBadFor t filling InContext = IsBad (λ (x : Pair). x.up) (λ x. x.low) t.kind t.pair filling InContext
