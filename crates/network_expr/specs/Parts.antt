-- Names by the networks of what they stand for.
use Rattle.std.specs.Prelude.{◌==◌, ◌<◌, ℕ, Bool, List, All, AllPairs, Option, None, Some, MatchOption, find, is_some}
use Rattle.fsm_base.specs.declared.letters.Sym.{Sym as Symbol}
use Rattle.word_relations.specs.Words.{IsDistinct}
use Rattle.regex_ast.specs.declared.expr.Atom.{Atom}
use Rattle.regex_ast.specs.declared.expr.Atom.TheVariants.{Sym, Name}
use Rattle.expr_kinds.specs.Atoms.{is_symbol_of, leaves_by}
use Rattle.expr_kinds.specs.Kinds.{Leaves}
use Rattle.expr_kinds.specs.declared.form.Kind.{Kind}
use Rattle.expr_kinds.specs.declared.form.Kind.TheVariants.{Language}
use Rattle.expr_meaning.specs.Leaves.{stands_by}
use Rattle.network_algebra.specs.Networks.{IsNetwork, PairsOf, kind_of_network}
use Rattle.network_expr.specs.declared.parts.Part.{Part}

-- the part of a name, by its number
abbrev pub part_of : List Part → ℕ → Option Part
part_of parts name = find (λ part. part.name == name) parts

-- what a name relates: what its part does, and nothing where it has none
abbrev pub named : List Part → ℕ → List Symbol → List Symbol → Type 0
named parts name u w = MatchOption (part_of parts name) ⊥ (λ part. PairsOf part.network.now u w)

abbrev pub kind_of_part : Option Part → Kind
kind_of_part None = Language
kind_of_part (Some part) = kind_of_network part.network.now

-- what a leaf relates, and what is told of leaves
abbrev pub stands : List Part → Atom → List Symbol → List Symbol → Type 0
stands parts = stands_by (named parts)

abbrev pub kinds : List Part → Leaves Atom
kinds parts = leaves_by (λ name. kind_of_part (part_of parts name))

-- whether a leaf is a symbol of the alphabet or a name with a part
abbrev pub is_leaf_of : List Part → List Symbol → Atom → Bool
is_leaf_of parts alphabet (Sym symbol) = is_symbol_of alphabet (Sym symbol)
is_leaf_of parts alphabet (Name name) = is_some (part_of parts name)

-- each symbol of the alphabet stands there once, the numbers of the parts rise, and their networks are over the alphabet
pub record IsGround (alphabet : List Symbol) (parts : List Part) : Type 0 where
  pub distinct : IsDistinct alphabet
  pub rising : AllPairs (λ one next. one.name < next.name) parts
  pub over : All (λ part. IsNetwork alphabet part.network.now) parts
