-- The loop over contexts.
use Rattle.std.proofs.Common.{◌≡◌, ◌==◌, ◌<◌, true, false, List, [], ◌∷◌, ◌++◌, length, Option, None, Some, refl, sym, ap, subst, ◌∙◌, arith, length-append}
use Rattle.std.proofs.lemmas.List.{length-map}
use Rattle.std.specs.List.{list_all}
use Rattle.std.specs.Option.{option_map}
use Rattle.regex_ast.specs.Terms.{Term, Contexts, no_context, between}
use Rattle.regex_ast.specs.declared.expr.Context.{Context}
use Rattle.regex_ast.specs.declared.expr.Expr.{Expr}
use Rattle.regex_ast.specs.declared.expr.Raw.{Raw}
use Rattle.regex_ast.specs.declared.twolc.PairPart.{PairPart}
use Rattle.regex_tokens.proofs.Lists.{split_once}
use Rattle.project_meaning.specs.Trees.{Part}
use Rattle.twolc_tokens.specs.declared.token.Operator.TheVariants.{Semicolon, Underscore}
use Rattle.twolc_tokens.specs.declared.token.Placed.{Placed}
use Rattle.twolc_tokens.specs.declared.token.Token.{Token}
use Rattle.twolc_tokens.specs.declared.token.Token.TheVariants.{Operator as operator}
use Rattle.twolc_grammar.specs.Atoms.{Names}
use Rattle.twolc_grammar.specs.Expressions.{IsPart}
use Rattle.twolc_grammar.specs.Sections.{tokens_of}
use Rattle.twolc_grammar.specs.Statements.{AreContexts}
use Rattle.twolc_expressions.specs.Reading.{IsFound, pair_term}
use Rattle.twolc_expressions.proofs.Made.{onto}
use Rattle.twolc_reader.specs.declared.separator.Separator.{Separator}
use Rattle.twolc_reader.specs.declared.separator.Separator.TheVariants.{Underscore as behind_left, Semicolon as behind_right}
use Rattle.twolc_reader.specs.RuleReading.{context_before, context_views, sign, is_inner, IsSplit}
use Rattle.twolc_reader.proofs.RuleFronts.{no_items}
use Rattle.twolc_reader.proofs.RuleSplits.{part_inner, has_sign, sign_ends}

tails : {A : Type 0} (x y : A) (xs ys : List A) → x ∷ xs ≡ y ∷ ys → xs ≡ ys
tails x y xs ys e = cc

not_empty : {A : Type 0} (xs ys : List A) (y : A) → [] ≡ xs ++ (y ∷ ys) → ⊥
not_empty [] ys y e = cc
not_empty (x ∷ xs) ys y e = cc

onto-append : {Y S : Type 0} (put : Y → S → S) (ys : List Y) (y : Y) (rest : S) → onto put (ys ++ y ∷ []) rest ≡ onto put ys (put y rest)
onto-append put [] y rest = refl
onto-append put (x ∷ ys) y rest = ap (put x) (onto-append put ys y rest)

-- what stands before and behind the first separator
split_same : (s : Separator) (a b c d : List Token) → list_all (is_inner s) a ≡ true → list_all (is_inner s) c ≡ true → a ++ (sign s ∷ b) ≡ c ++ (sign s ∷ d) → (a ≡ c) × (b ≡ d)
split_same s a b c d free other e =
    let same = split_once (is_inner s) a c (sign s ∷ b) (sign s ∷ d) free other (sign_ends s) (sign_ends s) e in (same.0, tails (sign s) (sign s) b d same.1)

-- what was found, before what is left
pub record SoFar (names : Names) (tokens rest : List Token) (found : List (Context (PairPart Raw))) : Type 0 where
  pub forth : (cs : Contexts (Part Raw)) → AreContexts names rest cs → AreContexts names tokens (onto context_before found cs)
  pub back : (cs : Contexts (Part Raw)) → AreContexts names tokens cs → (more : Contexts (Part Raw)) × AreContexts names rest more

begin : (names : Names) (tokens : List Token) → SoFar names tokens tokens []
begin names tokens = record { forth = λ cs h. h; back = λ cs h. (cs, h) }

pub begun : (names : Names) (tokens : List Token) (found : List (Context (PairPart Raw))) → found ≡ [] → SoFar names tokens tokens found
begun names tokens found none = subst (λ (cs : List (Context (PairPart Raw))). SoFar names tokens tokens cs) (sym none) (begin names tokens)

-- a part, as it was read
pub part_said : (names : Names) (tokens : List Token) (o : Option (Expr (PairPart Raw))) (e : Expr (PairPart Raw)) → o ≡ Some e → IsFound (IsPart names tokens) (option_map pair_term o) → IsPart names tokens (pair_term e)
part_said names tokens o e is found = subst (λ (x : Option (Expr (PairPart Raw))). IsFound (IsPart names tokens) (option_map pair_term x)) is found

pub part_missing : (names : Names) (tokens : List Token) (o : Option (Expr (PairPart Raw))) → o ≡ None → IsFound (IsPart names tokens) (option_map pair_term o) → IsFound (IsPart names tokens) None
part_missing names tokens o is found = subst (λ (x : Option (Expr (PairPart Raw))). IsFound (IsPart names tokens) (option_map pair_term x)) is found

-- the first context, of which the left part is these tokens
record Opened (names : Names) (left behind : List Token) : Type 0 where
  l : Term (Part Raw)
  r : Term (Part Raw)
  right : List Token
  more : List Token
  others : Contexts (Part Raw)
  left_is : IsPart names left l
  whole : behind ≡ right ++ (operator Semicolon ∷ more)
  right_is : IsPart names right r
  others_are : AreContexts names more others

module _ (names : Names) (rest left behind : List Token) (split : IsSplit behind_left rest (Some (left, behind))) where
  opened : (cs : Contexts (Part Raw)) → AreContexts names rest cs → Opened names left behind
  opened no_context h = absurd (not_empty left behind (operator Underscore) (sym h ∙ split.1))
  opened (between l r cs) (first, right, more, e, il, ir, are) =
      let same = split_same behind_left left behind first (right ++ (operator Semicolon ∷ more)) split.0 (part_inner behind_left names first l il) (sym split.1 ∙ e) in
      record { l = l; r = r; right = right; more = more; others = cs; left_is = subst (λ ts. IsPart names ts l) (sym same.0) il; whole = same.1; right_is = ir; others_are = are }

  pub no_left : IsFound (IsPart names left) None → (cs : Contexts (Part Raw)) → AreContexts names rest cs → ⊥
  no_left none cs h = let o = opened cs h in none o.l o.left_is

  pub no_semicolon : IsSplit behind_right behind None → (cs : Contexts (Part Raw)) → AreContexts names rest cs → ⊥
  no_semicolon none cs h = let o = opened cs h in has_sign behind_right o.right o.more (subst (λ ts. list_all (is_inner behind_right) ts ≡ true) o.whole none)

  module _ (right more : List Token) (ended : IsSplit behind_right behind (Some (right, more))) where
    closed : (o : Opened names left behind) → (right ≡ o.right) × (more ≡ o.more)
    closed o = split_same behind_right right more o.right o.more ended.0 (part_inner behind_right names o.right o.r o.right_is) (sym ended.1 ∙ o.whole)

    pub no_right : IsFound (IsPart names right) None → (cs : Contexts (Part Raw)) → AreContexts names rest cs → ⊥
    no_right none cs h = let o = opened cs h in none o.r (subst (λ ts. IsPart names ts o.r) (sym (closed o).0) o.right_is)

    others_left : (cs : Contexts (Part Raw)) → AreContexts names rest cs → (others : Contexts (Part Raw)) × AreContexts names more others
    others_left cs h = let o = opened cs h in (o.others, subst (λ ts. AreContexts names ts o.others) (sym (closed o).1) o.others_are)

    pub go_on : (tokens : List Token) (found new : List (Context (PairPart Raw))) (c : Context (PairPart Raw)) → IsPart names left (pair_term c.left) → IsPart names right (pair_term c.right) → new ≡ found ++ c ∷ [] → SoFar names tokens rest found → SoFar names tokens more new
    go_on tokens found new c l r new_is so_far = record {
      forth = λ cs h. subst (λ whole. AreContexts names tokens whole) (sym (ap (λ ys. onto context_before ys cs) new_is ∙ onto-append context_before found c cs))
          (so_far.forth (context_before c cs) (left, right, more, split.1 ∙ ap (λ ts. left ++ (operator Underscore ∷ ts)) ended.1, l, r, h));
      back = λ cs h. let b = so_far.back cs h in others_left b.0 b.1;
    }

-- tokens that are left but have no `_`
pub no_underscore : (names : Names) (rest : List Placed) → false ≡ (length rest == 0) → IsSplit behind_left (tokens_of rest) None → (cs : Contexts (Part Raw)) → AreContexts names (tokens_of rest) cs → ⊥
no_underscore names [] some none cs h = cc
no_underscore names (p ∷ rest) some none no_context h = cc
no_underscore names (p ∷ rest) some none (between l r cs) h =
    has_sign behind_left h.0 (h.1 ++ (operator Semicolon ∷ h.2)) (subst (λ ts. list_all (is_inner behind_left) ts ≡ true) h.3 none)

-- where what is left is none, all is none
pub failed : (names : Names) (tokens rest : List Token) (found : List (Context (PairPart Raw))) → ((cs : Contexts (Part Raw)) → AreContexts names rest cs → ⊥) → SoFar names tokens rest found → IsFound (AreContexts names tokens) None
failed names tokens rest found none so_far = λ cs h. let b = so_far.back cs h in none b.0 b.1

views_all : (found : List (Context (PairPart Raw))) → onto context_before found no_context ≡ context_views found
views_all [] = refl
views_all (c ∷ cs) = ap (λ rest. context_before c rest) (views_all cs)

pub ended : (names : Names) (tokens : List Token) (rest : List Placed) (found : List (Context (PairPart Raw))) → true ≡ (length rest == 0) → SoFar names tokens (tokens_of rest) found → IsFound (AreContexts names tokens) (Some (context_views found))
ended names tokens [] found none so_far = subst (λ cs. AreContexts names tokens cs) (views_all found) (so_far.forth no_context refl)
ended names tokens (p ∷ rest) found none so_far = absurd (no_items p rest none)

-- what is behind a token is shorter
pub shorter : (rest behind : List Placed) (front : List Token) (t : Token) → tokens_of rest ≡ front ++ t ∷ tokens_of behind → length behind < length rest
shorter rest behind front t e =
    omega (arith, ap length e, length-append front (t ∷ tokens_of behind), length-map rest (λ (p : Placed). p.token), length-map behind (λ (p : Placed). p.token))
