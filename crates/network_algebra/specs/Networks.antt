-- Networks: the automata of languages and the transducers of relations, as the operators of expressions see them
-- (Beesley and Karttunen, Finite State Morphology, 2003, section 2.3).
use Rattle.std.specs.Prelude.{◌≡◌, ◌≤◌, ◌↔◌, ℕ, List, ◌∷◌, Contains}
use Rattle.fsm_base.specs.declared.letters.Sym.{Sym}
use Rattle.fsm_base.specs.declared.letters.Pair.{Pair}
use Rattle.fsm_base.specs.declared.letters.Bound.{Bound}
use Rattle.fsm_base.specs.declared.letters.Bound.TheVariants.{Edge}
use Rattle.word_relations.specs.Relations.{AreSame}
use Rattle.fsa.specs.Automaton.{Automaton, UsesLetter}
use Rattle.fsa.specs.Language.{Accepts}
use Rattle.fst_algebra.specs.Relation.{IsRelated}
use Rattle.fst_algebra.specs.Relations.{UsesUpper, UsesLower}
use Rattle.fst_flagged.specs.Flagged.{FlaggedRelates, UsesLetters}
use Rattle.expr_kinds.specs.Kinds.{both}
use Rattle.expr_kinds.specs.declared.form.Kind.{Kind}
use Rattle.expr_kinds.specs.declared.form.Kind.TheVariants.{Language, Relation}
use Rattle.expr_meaning.specs.Operators.{inner, IsItself, AnyNumber, OneOrMore, Just}
use Rattle.network_algebra.specs.declared.network.Network.{Network}
use Rattle.network_algebra.specs.declared.network.Network.TheVariants.{Words, Pairs, Flagged}
use Rattle.network_algebra.specs.declared.operands.Operands.{Operands}
use Rattle.network_algebra.specs.declared.operands.Operands.TheVariants.{Words as BothWords, Pairs as BothPairs, Flagged as BothFlagged}
use Rattle.network_algebra.specs.declared.repeating.Times.{Times}
use Rattle.network_algebra.specs.declared.repeating.Times.TheVariants.{Any, OneOrMore as AtLeastOne, Exactly}

-- the letters of words that may have the edge
abbrev pub all_letters : {L : Type 0} → List L → List (Bound L)
all_letters symbols = Edge ∷ inner symbols

-- the automaton's letters are among these
abbrev pub UsesOnly : {L : Type 0} → List L → Automaton L → Type 0
UsesOnly {L} letters m = (x : L) → UsesLetter m x → Contains letters x

-- the symbols on both sides of the transducer are among these
pub record UsesSymbols (symbols : List Sym) (m : Automaton Pair) : Type 0 where
  pub upper : (x : Sym) → UsesUpper m x → Contains symbols x
  pub lower : (x : Sym) → UsesLower m x → Contains symbols x

-- a network over an alphabet
abbrev pub IsNetwork : List Sym → Network → Type 0
IsNetwork symbols (Words m) = UsesOnly (all_letters symbols) m
IsNetwork symbols (Pairs m) = UsesSymbols symbols m
IsNetwork symbols (Flagged f) = UsesLetters symbols f

abbrev pub kind_of_network : Network → Kind
kind_of_network (Words m) = Language
kind_of_network (Pairs m) = Relation
kind_of_network (Flagged f) = Relation

-- the words of a language; a relation has none
abbrev pub WordsOf : Network → List (Bound Sym) → Type 0
WordsOf (Words m) w = Accepts m w
WordsOf (Pairs m) w = ⊥
WordsOf (Flagged f) w = ⊥

-- what the network relates; a language relates its words to themselves, and a transducer with conditions the sides of paths whose
-- conditions hold
abbrev pub PairsOf : Network → List Sym → List Sym → Type 0
PairsOf (Words m) u w = IsItself (Accepts m) u w
PairsOf (Pairs m) u w = IsRelated m u w
PairsOf (Flagged f) u w = FlaggedRelates f u w

-- the network is of this kind, its words, where it is a language, are those of the set, and it relates these pairs
pub record IsFor (kind : Kind) (P : List (Bound Sym) → Type 0) (R : List Sym → List Sym → Type 0) (n : Network) : Type 0 where
  pub kind_is : kind_of_network n ≡ kind
  pub words : kind ≡ Language → (w : List (Bound Sym)) → WordsOf n w ↔ P w
  pub pairs : AreSame (PairsOf n) R

-- the network is a relation of these pairs
pub record RelatesOnly (R : List Sym → List Sym → Type 0) (n : Network) : Type 0 where
  pub kind_is : kind_of_network n ≡ Relation
  pub pairs : AreSame (PairsOf n) R

-- the automata of two networks, as languages where both are languages, and else as relations, of which both are plain or both may
-- have conditions
abbrev pub AreOperands : Network → Network → Operands → Type 0
AreOperands a b (BothWords x y) = (a ≡ Words x) × (b ≡ Words y)
AreOperands a b (BothPairs x y) =
    (both (kind_of_network a) (kind_of_network b) ≡ Relation) × AreSame (IsRelated x) (PairsOf a) × AreSame (IsRelated y) (PairsOf b)
    × ((symbols : List Sym) → IsNetwork symbols a → UsesSymbols symbols x) × ((symbols : List Sym) → IsNetwork symbols b → UsesSymbols symbols y)
AreOperands a b (BothFlagged f g) =
    (both (kind_of_network a) (kind_of_network b) ≡ Relation) × AreSame (FlaggedRelates f) (PairsOf a) × AreSame (FlaggedRelates g) (PairsOf b)
    × ((symbols : List Sym) → IsNetwork symbols a → UsesLetters symbols f) × ((symbols : List Sym) → IsNetwork symbols b → UsesLetters symbols g)

-- how often an operand stands
abbrev pub Counts : Times → ℕ → Type 0
Counts Any count = AnyNumber count
Counts AtLeastOne count = OneOrMore count
Counts (Exactly n) count = Just n count

-- at most so many
abbrev pub AtMost : ℕ → ℕ → Type 0
AtMost n count = count ≤ n
