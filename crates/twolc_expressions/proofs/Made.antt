-- Rows that are made item by item, or not at all.
use Rattle.std.proofs.Common.{◌≡◌, ◌+◌, ◌<◌, ◌≤◌, ℕ, List, [], ◌∷◌, ◌++◌, Option, None, Some, length, drop, get_or, map, refl, sym, ap, subst, ◌∙◌}
use Rattle.std.proofs.lemmas.List.{drop_all}
use Rattle.std.specs.Option.{option_map, option_and_then}
use Rattle.regex_ast.specs.Terms.{Terms, term, terms_of, then_term, no_term, no_link, or, and, less}
use Rattle.regex_ast.specs.declared.expr.Expr.{Expr}
use Rattle.regex_ast.specs.declared.expr.Link.{Link, Or, And, Less}
use Rattle.regex_ast.specs.declared.expr.Raw.{Raw}
use Rattle.regex_ast.specs.declared.twolc.PairPart.{PairPart}
use Rattle.word_relations.proofs.Behind.{left_behind}
use Rattle.project_meaning.specs.Trees.{Part}
use Rattle.twolc_grammar.specs.Atoms.{Names}
use Rattle.twolc_grammar.specs.Expressions.{over_pairs, each_over_pairs}
use Rattle.twolc_expressions.specs.Reading.{pair_term, pair_terms, pair_links, link_before}

-- items in front of a row
abbrev pub onto : {Y S : Type 0} → (Y → S → S) → List Y → S → S
onto put [] rest = rest
onto put (y ∷ ys) rest = put y (onto put ys rest)

onto-append : {Y S : Type 0} (put : Y → S → S) (ys : List Y) (y : Y) (rest : S) → onto put (ys ++ y ∷ []) rest ≡ onto put ys (put y rest)
onto-append put [] y rest = refl
onto-append put (x ∷ ys) y rest = ap (put x) (onto-append put ys y rest)

module _ {X Y S : Type 0} (put : Y → S → S) (made : List X → Option S) where
  -- what was made stands in front of what is made of the rest
  abbrev pub SoFar : List X → ℕ → List Y → Type 0
  SoFar xs i found = option_map (onto put found) (made (drop i xs)) ≡ made xs

  front : (found new : List Y) (y : Y) (o : Option S) → new ≡ found ++ y ∷ [] → option_map (onto put new) o ≡ option_map (onto put found) (option_map (put y) o)
  front found new y None e = refl
  front found new y (Some s) e = ap Some (ap (λ z. onto put z s) e ∙ onto-append put found y s)

  begin : (xs : List X) → SoFar xs 0 []
  begin xs = by (made xs)
    where
      by : (o : Option S) → option_map (onto put []) o ≡ o
      by None = refl
      by (Some s) = refl

  pub begun : (xs : List X) (found : List Y) → found ≡ [] → SoFar xs 0 found
  begun xs found none = subst (λ (ys : List Y). SoFar xs 0 ys) (sym none) (begin xs)

  pub more : (xs : List X) (i : ℕ) (x : X) (found new : List Y) (y : Y) → i < length xs → x ≡ get_or xs i x → new ≡ found ++ y ∷ [] → ((rest : List X) → made (x ∷ rest) ≡ option_map (put y) (made rest)) → SoFar xs i found → SoFar xs (i + 1) new
  more xs i x found new y below is new_is stands so_far =
      front found new y (made (drop (i + 1) xs)) new_is ∙ ap (option_map (onto put found)) (sym (stands (drop (i + 1) xs)) ∙ ap made (sym (left_behind xs i x below is))) ∙ so_far

  pub failed : (xs : List X) (i : ℕ) (x : X) (found : List Y) → i < length xs → x ≡ get_or xs i x → ((rest : List X) → made (x ∷ rest) ≡ None) → SoFar xs i found → None ≡ made xs
  failed xs i x found below is none so_far = ap (option_map (onto put found)) (sym (none (drop (i + 1) xs)) ∙ ap made (sym (left_behind xs i x below is))) ∙ so_far

  pub ended : (xs : List X) (i : ℕ) (found : List Y) (nothing all : S) → length xs ≤ i → made [] ≡ Some nothing → all ≡ onto put found nothing → SoFar xs i found → Some all ≡ made xs
  ended xs i found nothing all over none_is all_is so_far = ap Some all_is ∙ ap (option_map (onto put found)) (sym none_is ∙ ap made (sym (drop_all i xs over))) ∙ so_far

-- Operands.

abbrev pub term_before : Expr (PairPart Raw) → Terms (Part Raw) → Terms (Part Raw)
term_before e rest = then_term (pair_term e) rest

abbrev pub each_made : Names → List (Expr Raw) → Option (Terms (Part Raw))
each_made names xs = each_over_pairs names (terms_of (map term xs))

pub each_all : (found : List (Expr (PairPart Raw))) → pair_terms found ≡ onto term_before found no_term
each_all [] = refl
each_all (e ∷ es) = ap (then_term (pair_term e)) (each_all es)

pub each_stands : (names : Names) (x : Expr Raw) (y : Expr (PairPart Raw)) → Some (pair_term y) ≡ over_pairs names (term x) → (rest : List (Expr Raw)) → each_made names (x ∷ rest) ≡ option_map (term_before y) (each_made names rest)
each_stands names x y e rest = ap (option_and_then (λ t. option_map (then_term t) (each_made names rest))) (sym e)

pub each_none : (names : Names) (x : Expr Raw) → None ≡ over_pairs names (term x) → (rest : List (Expr Raw)) → each_made names (x ∷ rest) ≡ None
each_none names x e rest = ap (option_and_then (λ t. option_map (then_term t) (each_made names rest))) (sym e)

-- Operands with the operators before them.

pub links_all : (found : List (Link (PairPart Raw))) → pair_links found ≡ onto link_before found no_link
links_all [] = refl
links_all (Or e ∷ ls) = ap (or (pair_term e)) (links_all ls)
links_all (And e ∷ ls) = ap (and (pair_term e)) (links_all ls)
links_all (Less e ∷ ls) = ap (less (pair_term e)) (links_all ls)
