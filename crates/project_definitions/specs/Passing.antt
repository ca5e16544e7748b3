-- The parts of a grammar of which each leaf is a symbol.
use Rattle.std.specs.Prelude.{cond, All, IsTrue}
use Rattle.regex_ast.specs.declared.expr.Atom.{Atom}
use Rattle.regex_ast.specs.declared.expr.Atom.TheVariants.{Sym, Name}
use Rattle.regex_ast.specs.declared.expr.Context.{Context}
use Rattle.regex_ast.specs.declared.twolc.PairDefine.{PairDefine}
use Rattle.regex_ast.specs.declared.twolc.PairPart.{PairPart}
use Rattle.regex_ast.specs.declared.twolc.TwoLevelRule.{TwoLevelRule}
use Rattle.expr_kinds.specs.Atoms.{is_symbol}
use Rattle.expr_kinds.specs.Built.{IsBuilt}
use Rattle.grammar_pairs.specs.Laws.{pair_passes, part_passes}
use Rattle.grammar_pairs.specs.Plain.{pair_of, part_of, term_of}

-- what stands for a leaf of an expression over pairs: a symbol where its own leaves are symbols, else a name
abbrev pub passing : PairPart Atom → Atom
passing part = cond (part_passes is_symbol (part_of part)) (Sym (record { 0 = 0 })) (Name 0)

abbrev pub IsBuiltDefinition : PairDefine Atom → Type 0
IsBuiltDefinition d = IsBuilt (part_passes is_symbol) (term_of d.expr)

abbrev pub IsBuiltContext : Context (PairPart Atom) → Type 0
IsBuiltContext c = IsBuilt (part_passes is_symbol) (term_of c.left) × IsBuilt (part_passes is_symbol) (term_of c.right)

abbrev pub IsBuiltRule : TwoLevelRule Atom → Type 0
IsBuiltRule r = IsTrue (pair_passes is_symbol (pair_of r.pair)) × All IsBuiltContext r.contexts.items
