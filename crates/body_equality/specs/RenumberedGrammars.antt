-- Grammars of the program as plain trees, with the numbers that their leaves have in another project.
use Rattle.std.specs.Prelude.{◌≡◌, List, [], ◌∷◌}
use Rattle.std.specs.Borrow.{Bor}
use Rattle.regex_ast.specs.Terms.{Term, Contexts}
use Rattle.regex_ast.specs.declared.expr.Atom.{Atom}
use Rattle.regex_ast.specs.declared.expr.Context.{Context}
use Rattle.regex_ast.specs.declared.expr.Expr.{Expr}
use Rattle.regex_ast.specs.declared.twolc.PairAtom.{PairAtom}
use Rattle.regex_ast.specs.declared.twolc.PairDefine.{PairDefine}
use Rattle.regex_ast.specs.declared.twolc.PairPart.{PairPart}
use Rattle.regex_ast.specs.declared.twolc.PairSide.{PairSide}
use Rattle.regex_ast.specs.declared.twolc.SetOf.{SetOf}
use Rattle.regex_ast.specs.declared.twolc.TwoLevelRule.{TwoLevelRule}
use Rattle.expr_leaves.specs.Mapped.{mapped, mapped_contexts}
use Rattle.project_meaning.specs.Trees.{Side, Pair, Part, Set, PairDefinition, Rule}
use Rattle.grammar_pairs.specs.Mapped.{mapped_definition, mapped_pair, mapped_part, mapped_rule, mapped_set, mapped_side}
use Rattle.grammar_pairs.specs.Plain.{contexts_in, definition_of, pair_of, part_of, rule_of, set_of, side_of, term_of}
use Rattle.body_equality.specs.Renumbered.{renumbered}
use Rattle.body_equality.specs.declared.renumbering.Renumbering.{Renumbering}

-- a part behind a reference
abbrev pub part_behind : Bor (PairPart Atom) → Part Atom
part_behind part = part_of part.now

-- a context, alone
abbrev pub context_alone : Context (PairPart Atom) → Contexts (Part Atom)
context_alone context = contexts_in (context ∷ [])

module _ (numbers : Renumbering) where
  abbrev pub renumbered_side : PairSide Atom → Side Atom
  renumbered_side side = mapped_side (renumbered numbers) (side_of side)

  abbrev pub renumbered_pair : PairAtom Atom → Pair Atom
  renumbered_pair pair = mapped_pair (renumbered numbers) (pair_of pair)

  abbrev pub renumbered_part : PairPart Atom → Part Atom
  renumbered_part part = mapped_part (renumbered numbers) (part_of part)

  abbrev pub renumbered_behind : Bor (PairPart Atom) → Part Atom
  renumbered_behind part = renumbered_part part.now

  abbrev pub renumbered_term : Expr (PairPart Atom) → Term (Part Atom)
  renumbered_term expr = mapped (mapped_part (renumbered numbers)) (term_of expr)

  abbrev pub renumbered_contexts : List (Context (PairPart Atom)) → Contexts (Part Atom)
  renumbered_contexts contexts = mapped_contexts (mapped_part (renumbered numbers)) (contexts_in contexts)

  abbrev pub renumbered_alone : Context (PairPart Atom) → Contexts (Part Atom)
  renumbered_alone context = renumbered_contexts (context ∷ [])

  abbrev pub renumbered_set : SetOf Atom → Set Atom
  renumbered_set set = mapped_set (renumbered numbers) (set_of set)

  abbrev pub renumbered_definition : PairDefine Atom → PairDefinition Atom
  renumbered_definition definition = mapped_definition (renumbered numbers) (definition_of definition)

  abbrev pub renumbered_rule : TwoLevelRule Atom → Rule Atom
  renumbered_rule rule = mapped_rule (renumbered numbers) (rule_of rule)

  -- the name, the kind and the pair of a rule are those of another one
  pub record IsSameHead (other rule : TwoLevelRule Atom) : Type 0 where
    pub name : other.name ≡ rule.name
    pub kind : other.kind ≡ rule.kind
    pub pair : pair_of other.pair ≡ renumbered_pair rule.pair
