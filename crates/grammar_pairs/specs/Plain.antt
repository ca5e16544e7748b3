-- Grammars of the program as plain trees, and the forms of expressions over pairs.
use Rattle.std.specs.Prelude.{List, All, map}
use Rattle.fsm_base.specs.declared.letters.Sym.{Sym as Symbol}
use Rattle.regex_ast.specs.Terms.{Term, Terms, Links, Contexts, empty, any, edge, atom, group, maybe, not_one, suffixed, prefixed, ignore, concat, chain, no_term, then_term, no_link, or, and, less, no_context, between, term, terms_of, links_of, contexts_of}
use Rattle.regex_ast.specs.declared.expr.Atom.{Atom}
use Rattle.regex_ast.specs.declared.expr.Atom.TheVariants.{Sym, Name}
use Rattle.regex_ast.specs.declared.expr.Context.{Context}
use Rattle.regex_ast.specs.declared.expr.Expr.{Expr}
use Rattle.regex_ast.specs.declared.expr.Link.{Link}
use Rattle.regex_ast.specs.declared.twolc.Grammar.{Grammar as GrammarOf}
use Rattle.regex_ast.specs.declared.twolc.PairAtom.{PairAtom}
use Rattle.regex_ast.specs.declared.twolc.PairDefine.{PairDefine}
use Rattle.regex_ast.specs.declared.twolc.PairPart.{PairPart}
use Rattle.regex_ast.specs.declared.twolc.PairPart.TheVariants.{Atom as OfPair, Named}
use Rattle.regex_ast.specs.declared.twolc.PairSide.{PairSide}
use Rattle.regex_ast.specs.declared.twolc.PairSide.TheVariants.{Zero, Any, One, Member}
use Rattle.regex_ast.specs.declared.twolc.SetOf.{SetOf}
use Rattle.regex_ast.specs.declared.twolc.TwoLevelRule.{TwoLevelRule}
use Rattle.expr_leaves.specs.Mapped.{mapped, mapped_each, mapped_links, mapped_contexts}
use Rattle.project_meaning.specs.Trees.{Side, nothing, anything, one, member, Pair, Part, pair, called, Set, PairDefinition, Rule, Grammar}

abbrev pub side_of : {A : Type 0} → PairSide A → Side A
side_of Zero = nothing
side_of Any = anything
side_of (One leaf) = one leaf
side_of (Member set) = member set

abbrev pub pair_of : {A : Type 0} → PairAtom A → Pair A
pair_of p = record { up = side_of p.up; low = side_of p.low }

abbrev pub part_of : {A : Type 0} → PairPart A → Part A
part_of (OfPair p) = pair (pair_of p)
part_of (Named name) = called name

-- expressions, rows of them, and contexts
abbrev pub term_of : {A : Type 0} → Expr (PairPart A) → Term (Part A)
term_of e = mapped part_of (term e)

abbrev pub terms_in : {A : Type 0} → List (Expr (PairPart A)) → Terms (Part A)
terms_in es = mapped_each part_of (terms_of (map term es))

abbrev pub links_in : {A : Type 0} → List (Link (PairPart A)) → Links (Part A)
links_in links = mapped_links part_of (links_of links)

abbrev pub contexts_in : {A : Type 0} → List (Context (PairPart A)) → Contexts (Part A)
contexts_in contexts = mapped_contexts part_of (contexts_of contexts)

abbrev pub set_of : {A : Type 0} → SetOf A → Set A
set_of s = record { name = s.name; symbols = s.symbols.items }

abbrev pub definition_of : {A : Type 0} → PairDefine A → PairDefinition A
definition_of d = record { name = d.name; term = term_of d.expr }

abbrev pub rule_of : {A : Type 0} → TwoLevelRule A → Rule A
rule_of r = record { name = r.name; centre = pair_of r.pair; kind = r.kind; contexts = contexts_in r.contexts.items }

abbrev pub grammar_of : {A : Type 0} → GrammarOf A → Grammar A
grammar_of g = record {
  pairs = map pair_of g.pairs.items;
  sets = map set_of g.sets.items;
  definitions = map definition_of g.definitions.items;
  rules = map rule_of g.rules.items;
}

-- the symbol of a leaf. In a grammar no leaf is a name: one would count as the symbol with its number
abbrev pub symbol_in : Atom → Symbol
symbol_in (Sym symbol) = symbol
symbol_in (Name name) = record { 0 = name }

-- The forms of expressions that a grammar has: braces, `:`, `=>`, replacement, directed or not, `.x.` and `.o.` stand in none.
abbrev mutual
  pub IsPairForm : {A : Type 0} → Term A → Type 0
  IsPairForm empty = Unit {0}
  IsPairForm any = Unit {0}
  IsPairForm edge = Unit {0}
  IsPairForm (atom a) = Unit {0}
  IsPairForm (group e) = IsPairForm e
  IsPairForm (maybe e) = IsPairForm e
  IsPairForm (not_one n e) = IsPairForm e
  IsPairForm (suffixed e suffixes) = IsPairForm e
  IsPairForm (prefixed prefixes e) = IsPairForm e
  IsPairForm (ignore es) = ArePairForms es
  IsPairForm (concat es) = ArePairForms es
  IsPairForm (chain e links) = IsPairForm e × LinksArePairForms links
  IsPairForm _ = ⊥

  pub ArePairForms : {A : Type 0} → Terms A → Type 0
  ArePairForms no_term = Unit {0}
  ArePairForms (then_term e es) = IsPairForm e × ArePairForms es

  pub LinksArePairForms : {A : Type 0} → Links A → Type 0
  LinksArePairForms no_link = Unit {0}
  LinksArePairForms (or e links) = IsPairForm e × LinksArePairForms links
  LinksArePairForms (and e links) = IsPairForm e × LinksArePairForms links
  LinksArePairForms (less e links) = IsPairForm e × LinksArePairForms links

abbrev pub ContextsArePairForms : {A : Type 0} → Contexts A → Type 0
ContextsArePairForms no_context = Unit {0}
ContextsArePairForms (between l r contexts) = IsPairForm l × IsPairForm r × ContextsArePairForms contexts

-- a side that names one symbol, or nothing
abbrev pub IsNamedSide : {A : Type 0} → Side A → Type 0
IsNamedSide nothing = Unit {0}
IsNamedSide anything = ⊥
IsNamedSide (one leaf) = Unit {0}
IsNamedSide (member set) = ⊥

-- a rule is about one pair
abbrev pub IsFormedRule : {A : Type 0} → Rule A → Type 0
IsFormedRule r = IsNamedSide r.centre.up × IsNamedSide r.centre.low × ContextsArePairForms r.contexts

-- the expressions and rules of a grammar have the forms that stand in a text
pub record IsFormed {A : Type 0} (g : Grammar A) : Type 0 where
  pub definitions : All (λ d. IsPairForm d.term) g.definitions
  pub rules : All IsFormedRule g.rules
