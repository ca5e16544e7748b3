-- A grammar as its reader's contract sees it is the plain tree.
use Rattle.std.proofs.Common.{◌≡◌, List, [], ◌∷◌, map, refl}
use Rattle.grammar_pairs.specs.Plain.{contexts_in, definition_of, grammar_of, pair_of, part_of, rule_of, set_of, side_of, term_of}
use Rattle.expr_leaves.specs.Mapped.{mapped}
use Rattle.project_meaning.specs.Trees.{pair}
use Rattle.regex_ast.specs.Terms.{between, term}
use Rattle.regex_ast.specs.declared.expr.Context.{Context}
use Rattle.regex_ast.specs.declared.expr.Expr.{Expr}
use Rattle.regex_ast.specs.declared.expr.Raw.{Raw}
use Rattle.regex_ast.specs.declared.twolc.Grammar.{Grammar}
use Rattle.regex_ast.specs.declared.twolc.PairAtom.{PairAtom}
use Rattle.regex_ast.specs.declared.twolc.PairDefine.{PairDefine}
use Rattle.regex_ast.specs.declared.twolc.PairPart.{PairPart}
use Rattle.regex_ast.specs.declared.twolc.PairPart.TheVariants.{Atom, Named}
use Rattle.regex_ast.specs.declared.twolc.PairSide.{PairSide}
use Rattle.regex_ast.specs.declared.twolc.PairSide.TheVariants.{Zero, Any, One, Member}
use Rattle.regex_ast.specs.declared.twolc.TwoLevelRule.{TwoLevelRule}
use Rattle.twolc_expressions.specs.Views.{pair_view, part_view, side_view}
use Rattle.twolc_expressions.specs.Reading.{pair_term}
use Rattle.twolc_reader.specs.Reading.{grammar_view}
use Rattle.twolc_reader.specs.RuleReading.{context_views, rule_view}
use Rattle.twolc_reader.specs.StatementReading.{definition_view}

side_is : (side : PairSide Raw) → side_view side ≡ side_of side
side_is Zero = refl
side_is Any = refl
side_is (One leaf) = refl
side_is (Member set) = refl

pair_is : (p : PairAtom Raw) → pair_view p ≡ pair_of p
pair_is p =
    let up = side_is p.up in
    let low = side_is p.low in
    λ i. record { up = up i; low = low i }

part_is : (part : PairPart Raw) → part_view part ≡ part_of part
part_is (Atom p) = let own = pair_is p in λ i. pair (own i)
part_is (Named name) = refl

term_is : (e : Expr (PairPart Raw)) → pair_term e ≡ term_of e
term_is e = λ i. mapped (λ part. part_is part i) (term e)

contexts_are : (contexts : List (Context (PairPart Raw))) → context_views contexts ≡ contexts_in contexts
contexts_are [] = refl
contexts_are (c ∷ contexts) =
    let left = term_is c.left in
    let right = term_is c.right in
    let rest = contexts_are contexts in
    λ i. between (left i) (right i) (rest i)

definition_is : (d : PairDefine Raw) → definition_view d ≡ definition_of d
definition_is d = let own = term_is d.expr in λ i. record { name = d.name; term = own i }

rule_is : (r : TwoLevelRule Raw) → rule_view r ≡ rule_of r
rule_is r =
    let centre = pair_is r.pair in
    let contexts = contexts_are r.contexts.items in
    λ i. record { name = r.name; centre = centre i; kind = r.kind; contexts = contexts i }

pub grammar_is : (g : Grammar Raw) → grammar_view g ≡ grammar_of g
grammar_is g = λ i. record {
  pairs = map (λ p. pair_is p i) g.pairs.items;
  sets = map set_of g.sets.items;
  definitions = map (λ d. definition_is d i) g.definitions.items;
  rules = map (λ r. rule_is r i) g.rules.items;
}
