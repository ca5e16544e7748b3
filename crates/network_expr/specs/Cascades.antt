-- Rows of compositions whose last operands aren't composed with the first ones yet.
use Rattle.std.specs.Prelude.{◌≡◌, ◌↔◌, List, Option, None, Some}
use Rattle.fsm_base.specs.declared.letters.Bound.{Bound}
use Rattle.fsm_base.specs.declared.letters.Sym.{Sym}
use Rattle.word_relations.specs.Relations.{AreSame, IsComposition}
use Rattle.expr_kinds.specs.Kinds.{both}
use Rattle.expr_kinds.specs.declared.form.Kind.{Kind}
use Rattle.expr_kinds.specs.declared.form.Kind.TheVariants.{Language}
use Rattle.network_algebra.specs.Networks.{IsNetwork, PairsOf, WordsOf, kind_of_network}
use Rattle.network_algebra.specs.declared.network.Network.{Network}
use Rattle.network_expr.specs.declared.cascade.Cascade.{Cascade}

-- both networks are over the alphabet
abbrev pub AreNetworks : List Sym → Network → Option Network → Type 0
AreNetworks symbols head None = IsNetwork symbols head
AreNetworks symbols head (Some tail) = IsNetwork symbols head × IsNetwork symbols tail

-- what the composition of the two is: its kind, its words where it is a language, and what it relates
abbrev pub kind_with : Network → Option Network → Kind
kind_with head None = kind_of_network head
kind_with head (Some tail) = both (kind_of_network head) (kind_of_network tail)

abbrev pub WordsWith : Network → Option Network → List (Bound Sym) → Type 0
WordsWith head None w = WordsOf head w
WordsWith head (Some tail) w = WordsOf head w × WordsOf tail w

abbrev pub PairsWith : Network → Option Network → List Sym → List Sym → Type 0
PairsWith head None u w = PairsOf head u w
PairsWith head (Some tail) u w = IsComposition (PairsOf head) (PairsOf tail) u w

abbrev pub IsCascade : List Sym → Cascade → Type 0
IsCascade symbols c = AreNetworks symbols c.head c.tail

abbrev pub kind_of_cascade : Cascade → Kind
kind_of_cascade c = kind_with c.head c.tail

abbrev pub WordsOfCascade : Cascade → List (Bound Sym) → Type 0
WordsOfCascade c = WordsWith c.head c.tail

abbrev pub PairsOfCascade : Cascade → List Sym → List Sym → Type 0
PairsOfCascade c = PairsWith c.head c.tail

-- the composition of the two is of this kind, its words, where it is a language, are those of the set, and it relates these pairs
pub record IsCascadeFor (kind : Kind) (P : List (Bound Sym) → Type 0) (R : List Sym → List Sym → Type 0) (c : Cascade) : Type 0 where
  pub kind_is : kind_of_cascade c ≡ kind
  pub words : kind ≡ Language → (w : List (Bound Sym)) → WordsOfCascade c w ↔ P w
  pub pairs : AreSame (PairsOfCascade c) R
