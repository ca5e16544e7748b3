-- The feasible pairs of a grammar, by the numbers of their symbols: those of the alphabet, of the rules' centres, and those that stand
-- in definitions and contexts.
use Rattle.std.specs.Prelude.{List, [], ◌∷◌, ◌++◌, Option, None, Some, map}
use Rattle.std.specs.List.{flat_map}
use Rattle.fsm_base.specs.declared.letters.Sym.{Sym}
use Rattle.fsm_base.specs.declared.letters.Pair.{Pair as Letter}
use Rattle.regex_ast.specs.Terms.{term}
use Rattle.regex_ast.specs.declared.expr.Atom.{Atom}
use Rattle.regex_ast.specs.declared.expr.Context.{Context}
use Rattle.regex_ast.specs.declared.expr.Expr.{Expr}
use Rattle.regex_ast.specs.declared.twolc.Grammar.{Grammar as GrammarOf}
use Rattle.regex_ast.specs.declared.twolc.PairAtom.{PairAtom}
use Rattle.regex_ast.specs.declared.twolc.PairDefine.{PairDefine}
use Rattle.regex_ast.specs.declared.twolc.PairPart.{PairPart}
use Rattle.regex_ast.specs.declared.twolc.TwoLevelRule.{TwoLevelRule}
use Rattle.expr_leaves.specs.Leaves.{leaves_in}
use Rattle.project_meaning.specs.Trees.{Side, nothing, one, Pair, Part, pair, called}
use Rattle.grammar_pairs.specs.Plain.{part_of, pair_of, symbol_in}

-- the one symbol, or nothing, that a side names, if it names one
abbrev pub named_side : Side Atom → List (Option Sym)
named_side nothing = None ∷ []
named_side (one leaf) = Some (symbol_in leaf) ∷ []
named_side _ = []

-- the pair that is written, if both sides name one
abbrev pub written_pair : Pair Atom → List Letter
written_pair p = flat_map (λ up. map (λ low. record { up = up; low = low }) (named_side p.low)) (named_side p.up)

abbrev pub written_part : Part Atom → List Letter
written_part (pair p) = written_pair p
written_part (called name) = []

-- what is written in the program's trees
abbrev pub of_atom : PairAtom Atom → List Letter
of_atom p = written_pair (pair_of p)

abbrev pub of_part : PairPart Atom → List Letter
of_part part = written_part (part_of part)

abbrev pub of_expression : Expr (PairPart Atom) → List Letter
of_expression e = flat_map of_part (leaves_in (term e))

abbrev pub of_context : Context (PairPart Atom) → List Letter
of_context c = of_expression c.left ++ of_expression c.right

abbrev pub of_definition : PairDefine Atom → List Letter
of_definition d = of_expression d.expr

abbrev pub of_rule : TwoLevelRule Atom → List Letter
of_rule r = of_atom r.pair ++ flat_map of_context r.contexts.items

abbrev pub feasible : GrammarOf Atom → List Letter
feasible g = flat_map of_atom g.pairs.items ++ flat_map of_definition g.definitions.items ++ flat_map of_rule g.rules.items
