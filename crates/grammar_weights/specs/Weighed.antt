-- Definitions of a grammar that were weighed: a name stands for the place of the last of that name.
use Rattle.std.specs.Prelude.{◌≡◌, ◌<◌, ℕ, List, Option, None, Some, length}
use Rattle.regex_ast.specs.declared.expr.Atom.{Atom}
use Rattle.regex_ast.specs.declared.expr.Atom.TheVariants.{Sym, Name}
use Rattle.regex_ast.specs.declared.twolc.PairPart.{PairPart}
use Rattle.expr_kinds.specs.Atoms.{weights_at}
use Rattle.expr_kinds.specs.Forms.{capped}
use Rattle.project_meaning.specs.Trees.{Part, pair, called, PairDefinition}
use Rattle.grammar_pairs.specs.Plain.{part_of}
use Rattle.grammar_pairs.specs.Tables.{under}
use Rattle.grammar_weights.specs.Weights.{part_weight}
use Rattle.grammar_weights.specs.declared.definitions.Weighed.{Weighed}

-- what stands for a name, by the place of its definition, if it has one; and for a leaf
abbrev pub leaf_at : Option ℕ → Atom
leaf_at None = Sym (record { 0 = 0 })
leaf_at (Some place) = Name place

abbrev pub part_at : List (List ℕ × ℕ) → Part Atom → Atom
part_at places (pair p) = Sym (record { 0 = 0 })
part_at places (called name) = leaf_at (under name places)

abbrev pub stands_for : List (List ℕ × ℕ) → PairPart Atom → Atom
stands_for places part = part_at places (part_of part)

-- each name weighs what it weighs below these definitions, of which the nearest stands first, as far as weights are told apart
pub record IsWeighed (weighed : Weighed) (above : List (PairDefinition Atom)) : Type 0 where
  pub weights : (name : List ℕ) → capped (weights_at weighed.forms.items (leaf_at (under name weighed.places))) ≡ capped (part_weight above (called name))
  pub within : (name : List ℕ) (place : ℕ) → under name weighed.places ≡ Some place → place < length weighed.forms.items
