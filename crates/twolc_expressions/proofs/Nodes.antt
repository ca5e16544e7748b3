-- Nodes over pairs, from what their operands are over pairs.
use Rattle.std.proofs.Common.{◌≡◌, Option, None, Some, Vec, Box, Global, map, sym, ap, ◌∙◌}
use Rattle.std.specs.Option.{option_map, option_and_then}
use Rattle.regex_ast.specs.Terms.{Terms, Links, term, terms_of, links_of, ignore, concat, chain}
use Rattle.regex_ast.specs.declared.expr.Expr.{Expr, Ignore, Concat, Chain}
use Rattle.regex_ast.specs.declared.expr.Link.{Link}
use Rattle.regex_ast.specs.declared.expr.Raw.{Raw}
use Rattle.regex_ast.specs.declared.twolc.PairPart.{PairPart}
use Rattle.regex_ast.proofs.Rows.{term-Ignore, term-Concat, term-Chain}
use Rattle.expr_leaves.specs.Mapped.{mapped}
use Rattle.project_meaning.specs.Trees.{Part}
use Rattle.twolc_expressions.specs.Views.{part_view}
use Rattle.twolc_grammar.specs.Atoms.{Names}
use Rattle.twolc_grammar.specs.Expressions.{over_pairs, each_over_pairs, links_over_pairs}
use Rattle.twolc_expressions.specs.Reading.{pair_term, pair_terms, pair_links}

abbrev terms_in : Vec (Expr (PairPart Raw)) Global → Terms (Part Raw)
terms_in v = pair_terms v.items

abbrev links_in : Vec (Link (PairPart Raw)) Global → Links (Part Raw)
links_in v = pair_links v.items

module _ (names : Names) (e : Expr Raw) where
  pub ignore_made : (operands : Vec (Expr Raw) Global) (found : Option (Vec (Expr (PairPart Raw)) Global)) → e ≡ Ignore operands → option_map (λ es. pair_terms es.items) found ≡ each_over_pairs names (terms_of (map term operands.items)) → option_map pair_term (option_map Ignore found) ≡ over_pairs names (term e)
  ignore_made operands None is made = ap (option_map ignore) made ∙ ap (over_pairs names) (sym (ap term is ∙ term-Ignore operands))
  ignore_made operands (Some v) is made = ap Some (ap (mapped part_view) (term-Ignore v)) ∙ ap (option_map ignore) made ∙ ap (over_pairs names) (sym (ap term is ∙ term-Ignore operands))

  pub concat_made : (operands : Vec (Expr Raw) Global) (found : Option (Vec (Expr (PairPart Raw)) Global)) → e ≡ Concat operands → option_map (λ es. pair_terms es.items) found ≡ each_over_pairs names (terms_of (map term operands.items)) → option_map pair_term (option_map Concat found) ≡ over_pairs names (term e)
  concat_made operands None is made = ap (option_map concat) made ∙ ap (over_pairs names) (sym (ap term is ∙ term-Concat operands))
  concat_made operands (Some v) is made = ap Some (ap (mapped part_view) (term-Concat v)) ∙ ap (option_map concat) made ∙ ap (over_pairs names) (sym (ap term is ∙ term-Concat operands))

  pub ignore_found : (operands : Vec (Expr Raw) Global) (o found : Option (Vec (Expr (PairPart Raw)) Global)) → e ≡ Ignore operands → o ≡ found → option_map terms_in o ≡ each_over_pairs names (terms_of (map term operands.items)) → option_map pair_term (option_map Ignore found) ≡ over_pairs names (term e)
  ignore_found operands o found is same made = ignore_made operands found is (ap (option_map terms_in) (sym same) ∙ made)

  pub concat_found : (operands : Vec (Expr Raw) Global) (o found : Option (Vec (Expr (PairPart Raw)) Global)) → e ≡ Concat operands → o ≡ found → option_map terms_in o ≡ each_over_pairs names (terms_of (map term operands.items)) → option_map pair_term (option_map Concat found) ≡ over_pairs names (term e)
  concat_found operands o found is same made = concat_made operands found is (ap (option_map terms_in) (sym same) ∙ made)

  pub chain_made : (first : Box (Expr Raw) Global) (links : Vec (Link Raw) Global) (front : Box (Expr (PairPart Raw)) Global) (found : Vec (Link (PairPart Raw)) Global) → e ≡ Chain first links → Some (pair_term front.value) ≡ over_pairs names (term first.value) → Some (pair_links found.items) ≡ links_over_pairs names (links_of links.items) → Some (pair_term (Chain front found)) ≡ over_pairs names (term e)
  chain_made first links front found is front_is made =
      ap Some (ap (mapped part_view) (term-Chain front found)) ∙ ap (option_map (chain (pair_term front.value))) made
      ∙ ap (option_and_then (λ t. option_map (chain t) (links_over_pairs names (links_of links.items)))) front_is ∙ ap (over_pairs names) (sym (ap term is ∙ term-Chain first links))

  pub chain_no_link : (first : Box (Expr Raw) Global) (links : Vec (Link Raw) Global) (front : Expr (PairPart Raw)) → e ≡ Chain first links → Some (pair_term front) ≡ over_pairs names (term first.value) → None ≡ links_over_pairs names (links_of links.items) → None ≡ over_pairs names (term e)
  chain_no_link first links front is front_is none =
      ap (option_map (chain (pair_term front))) none ∙ ap (option_and_then (λ t. option_map (chain t) (links_over_pairs names (links_of links.items)))) front_is ∙ ap (over_pairs names) (sym (ap term is ∙ term-Chain first links))

  module _ (first : Box (Expr Raw) Global) (links : Vec (Link Raw) Global) (is : e ≡ Chain first links) (o : Option (Expr (PairPart Raw))) (p : Option (Vec (Link (PairPart Raw)) Global)) (x : Expr (PairPart Raw)) where
    pub chain_found : (front : Box (Expr (PairPart Raw)) Global) (found : Vec (Link (PairPart Raw)) Global) → o ≡ Some x → p ≡ Some found → front.value ≡ x → option_map pair_term o ≡ over_pairs names (term first.value) → option_map links_in p ≡ links_over_pairs names (links_of links.items) → Some (pair_term (Chain front found)) ≡ over_pairs names (term e)
    chain_found front found some all same first_is links_are =
        chain_made first links front found is (ap (λ (y : Expr (PairPart Raw)). Some (pair_term y)) same ∙ ap (option_map pair_term) (sym some) ∙ first_is) (ap (option_map links_in) (sym all) ∙ links_are)

    pub chain_not_found : o ≡ Some x → p ≡ None → option_map pair_term o ≡ over_pairs names (term first.value) → option_map links_in p ≡ links_over_pairs names (links_of links.items) → None ≡ over_pairs names (term e)
    chain_not_found some none first_is links_are = chain_no_link first links x is (ap (option_map pair_term) (sym some) ∙ first_is) (ap (option_map links_in) (sym none) ∙ links_are)
