-- The rules of a grammar by the languages of their contexts, over its feasible pairs.
use Rattle.std.specs.Prelude.{◌≡◌, List, [], ◌∷◌}
use Rattle.regex_ast.specs.declared.expr.Atom.{Atom}
use Rattle.regex_ast.specs.declared.expr.Context.{Context}
use Rattle.regex_ast.specs.declared.expr.Expr.{Expr}
use Rattle.regex_ast.specs.declared.twolc.PairPart.{PairPart}
use Rattle.regex_ast.specs.declared.twolc.TwoLevelRule.{TwoLevelRule}
use Rattle.fsm_base.specs.declared.letters.Bound.{Bound}
use Rattle.fsm_base.specs.declared.letters.Pair.{Pair}
use Rattle.fsa.specs.Complete.{Complete}
use Rattle.expr_meaning.specs.Meaning.{In}
use Rattle.lang_algebra.specs.Languages.{IsLang}
use Rattle.network_algebra.specs.Networks.{all_letters}
use Rattle.network_algebra.specs.Renamed.{IsRenamed}
use Rattle.grammar_pairs.specs.Feasible.{of_atom}
use Rattle.grammar_pairs.specs.Plain.{term_of}
use Rattle.network_grammars.specs.PairMeaning.{pair_at, stands}
use Rattle.network_grammars.specs.declared.scope.Scope.{Scope}
use Rattle.two_level.specs.declared.rule.LangRule.{LangRule}
use Rattle.two_level.specs.declared.rule.PairContext.{PairContext}

-- the elements of two lists, one by one
abbrev pub Pairwise : {A B : Type 0} → (A → B → Type 0) → List A → List B → Type 0
Pairwise R [] [] = Unit {0}
Pairwise R (x ∷ xs) (y ∷ ys) = R x y × Pairwise R xs ys
Pairwise R _ _ = ⊥

-- the language of an expression over pairs
abbrev pub IsLanguageOf : Scope → Expr (PairPart Atom) → Complete (Bound Pair) → Type 0
IsLanguageOf scope e lang = IsLang (all_letters scope.pairs) (IsRenamed (pair_at scope.pairs) (In (stands scope) scope.numbers.items (term_of e))) lang

pub record IsContextOf (scope : Scope) (c : Context (PairPart Atom)) (context : PairContext) : Type 0 where
  pub left : IsLanguageOf scope c.left context.left
  pub right : IsLanguageOf scope c.right context.right

-- the rule of the same kind about the same pair, with the languages of its contexts
pub record IsRuleOf (scope : Scope) (r : TwoLevelRule Atom) (rule : LangRule) : Type 0 where
  pub pair : of_atom r.pair ≡ rule.pair ∷ []
  pub kind : rule.kind ≡ r.kind
  pub contexts : Pairwise (IsContextOf scope) r.contexts.items rule.contexts.items
