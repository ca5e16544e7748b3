-- The row of an expression with other leaves is its row with these.
use Rattle.std.proofs.Common.{◌≡◌, ◌↔◌, List, [], ◌∷◌, ◌++◌, map, refl, sym, ap, ◌∙◌}
use Rattle.std.proofs.lemmas.List.{map-append}
use Rattle.regex_ast.specs.declared.expr.Atom.{Atom}
use Rattle.regex_ast.specs.declared.expr.Prefix.{Prefix}
use Rattle.regex_ast.specs.declared.expr.Suffix.{Suffix}
use Rattle.regex_ast.specs.Terms.{Term, Terms, Links, Contexts, Steps, Mappings, Groups, empty, any, edge, atom, letters, group, maybe, not_one, cross, suffixed, prefixed, ignore, concat, chain, only, rules, directed, steps, no_term, then_term, no_link, or, and, less, no_context, between, no_step, cross_with, then, no_mapping, plain, markup, insert, no_group, then_group}
use Rattle.expr_leaves.specs.Mapped.{mapped, mapped_each, mapped_links, mapped_contexts, mapped_steps, mapped_mappings, mapped_groups}
use Rattle.body_equality.specs.Rows.{node_of, letter_row, suffix_row, prefix_row, parts, operand_row, link_row, context_row, step_row, mapping_row, group_row, row_of, token_by}
use Rattle.body_equality.specs.declared.token.Token.{Token}
use Rattle.body_equality.specs.declared.token.Token.TheVariants.{Leaf, Node, Item, End}
use Rattle.body_equality.specs.declared.token.Node.TheVariants as node
use Rattle.body_equality.specs.declared.token.Item.TheVariants as item
use Rattle.body_equality.specs.declared.token.Row.TheVariants as end
use Rattle.body_equality.proofs.Reading.{same_by_row}

module _ (f : Atom → Atom) where
  -- with other leaves
  abbrev by : List Token → List Token
  by row = map (token_by f) row

  two : (a b c d : List Token) → by a ≡ c → by b ≡ d → by (a ++ b) ≡ c ++ d
  two a b c d left right = map-append (token_by f) a b ∙ ap (λ (z : List Token). z ++ by b) left ∙ ap (λ (z : List Token). c ++ z) right

  mapped_node : (t : Term Atom) → node_of (mapped f t) ≡ node_of t
  mapped_node empty = refl
  mapped_node any = refl
  mapped_node edge = refl
  mapped_node (atom a) = refl
  mapped_node (letters all) = refl
  mapped_node (group e) = refl
  mapped_node (maybe e) = refl
  mapped_node (not_one n e) = refl
  mapped_node (cross e g) = refl
  mapped_node (suffixed e all) = refl
  mapped_node (prefixed all e) = refl
  mapped_node (ignore es) = refl
  mapped_node (concat es) = refl
  mapped_node (chain e links) = refl
  mapped_node (only e contexts) = refl
  mapped_node (rules optional groups) = refl
  mapped_node (directed way maps contexts) = refl
  mapped_node (steps e more) = refl

  by_letters : (all : List Atom) → by (letter_row all) ≡ letter_row (map f all)
  by_letters [] = refl
  by_letters (a ∷ more) = ap (λ (z : List Token). Item item.Letter ∷ Leaf (f a) ∷ z) (by_letters more)

  by_suffixes : (all : List Suffix) → by (suffix_row all) ≡ suffix_row all
  by_suffixes [] = refl
  by_suffixes (x ∷ xs) = ap (λ (z : List Token). Item (item.OneSuffix x) ∷ z) (by_suffixes xs)

  by_prefixes : (all : List Prefix) → by (prefix_row all) ≡ prefix_row all
  by_prefixes [] = refl
  by_prefixes (x ∷ xs) = ap (λ (z : List Token). Item (item.OnePrefix x) ∷ z) (by_prefixes xs)

  -- a head and its parts
  whole_row : (t : Term Atom) → by (parts t) ≡ parts (mapped f t) → by (row_of t) ≡ row_of (mapped f t)
  whole_row t parts_are = ap (λ n. Node n ∷ by (parts t)) (sym (mapped_node t)) ∙ ap (λ (z : List Token). Node (node_of (mapped f t)) ∷ z) parts_are

  mutual
    by_parts : (t : Term Atom) → by (parts t) ≡ parts (mapped f t)
    by_parts empty = refl
    by_parts any = refl
    by_parts edge = refl
    by_parts (atom a) = refl
    by_parts (letters all) = by_letters all
    by_parts (group e) = whole_row e (by_parts e)
    by_parts (maybe e) = whole_row e (by_parts e)
    by_parts (not_one n e) = whole_row e (by_parts e)
    by_parts (cross e g) = two (row_of e) (row_of g) (row_of (mapped f e)) (row_of (mapped f g)) (whole_row e (by_parts e)) (whole_row g (by_parts g))
    by_parts (suffixed e all) = two (row_of e) (suffix_row all) (row_of (mapped f e)) (suffix_row all) (whole_row e (by_parts e)) (by_suffixes all)
    by_parts (prefixed all e) = two (prefix_row all) (row_of e) (prefix_row all) (row_of (mapped f e)) (by_prefixes all) (whole_row e (by_parts e))
    by_parts (ignore es) = by_operands es
    by_parts (concat es) = by_operands es
    by_parts (chain e links) = two (row_of e) (link_row links) (row_of (mapped f e)) (link_row (mapped_links f links)) (whole_row e (by_parts e)) (by_links links)
    by_parts (only e contexts) = two (row_of e) (context_row contexts) (row_of (mapped f e)) (context_row (mapped_contexts f contexts)) (whole_row e (by_parts e)) (by_contexts contexts)
    by_parts (rules optional groups) = by_groups groups
    by_parts (directed way maps contexts) = two (mapping_row maps) (context_row contexts) (mapping_row (mapped_mappings f maps)) (context_row (mapped_contexts f contexts)) (by_mappings maps) (by_contexts contexts)
    by_parts (steps e more) = two (row_of e) (step_row more) (row_of (mapped f e)) (step_row (mapped_steps f more)) (whole_row e (by_parts e)) (by_steps more)

    by_operands : (es : Terms Atom) → by (operand_row es) ≡ operand_row (mapped_each f es)
    by_operands no_term = refl
    by_operands (then_term e es) = ap (λ (z : List Token). Item item.Operand ∷ z) (two (row_of e) (operand_row es) (row_of (mapped f e)) (operand_row (mapped_each f es)) (whole_row e (by_parts e)) (by_operands es))

    by_links : (links : Links Atom) → by (link_row links) ≡ link_row (mapped_links f links)
    by_links no_link = refl
    by_links (or e links) = ap (λ (z : List Token). Item item.Or ∷ z) (two (row_of e) (link_row links) (row_of (mapped f e)) (link_row (mapped_links f links)) (whole_row e (by_parts e)) (by_links links))
    by_links (and e links) = ap (λ (z : List Token). Item item.And ∷ z) (two (row_of e) (link_row links) (row_of (mapped f e)) (link_row (mapped_links f links)) (whole_row e (by_parts e)) (by_links links))
    by_links (less e links) = ap (λ (z : List Token). Item item.Less ∷ z) (two (row_of e) (link_row links) (row_of (mapped f e)) (link_row (mapped_links f links)) (whole_row e (by_parts e)) (by_links links))

    by_contexts : (contexts : Contexts Atom) → by (context_row contexts) ≡ context_row (mapped_contexts f contexts)
    by_contexts no_context = refl
    by_contexts (between l r contexts) = ap (λ (z : List Token). Item item.Between ∷ z)
        (two (row_of l ++ row_of r) (context_row contexts) (row_of (mapped f l) ++ row_of (mapped f r)) (context_row (mapped_contexts f contexts))
        (two (row_of l) (row_of r) (row_of (mapped f l)) (row_of (mapped f r)) (whole_row l (by_parts l)) (whole_row r (by_parts r))) (by_contexts contexts))

    by_steps : (more : Steps Atom) → by (step_row more) ≡ step_row (mapped_steps f more)
    by_steps no_step = refl
    by_steps (cross_with e more) = ap (λ (z : List Token). Item item.CrossWith ∷ z) (two (row_of e) (step_row more) (row_of (mapped f e)) (step_row (mapped_steps f more)) (whole_row e (by_parts e)) (by_steps more))
    by_steps (then e more) = ap (λ (z : List Token). Item item.Then ∷ z) (two (row_of e) (step_row more) (row_of (mapped f e)) (step_row (mapped_steps f more)) (whole_row e (by_parts e)) (by_steps more))

    by_mappings : (maps : Mappings Atom) → by (mapping_row maps) ≡ mapping_row (mapped_mappings f maps)
    by_mappings no_mapping = refl
    by_mappings (plain c r maps) = ap (λ (z : List Token). Item item.Plain ∷ z)
        (two (row_of c ++ row_of r) (mapping_row maps) (row_of (mapped f c) ++ row_of (mapped f r)) (mapping_row (mapped_mappings f maps))
        (two (row_of c) (row_of r) (row_of (mapped f c)) (row_of (mapped f r)) (whole_row c (by_parts c)) (whole_row r (by_parts r))) (by_mappings maps))
    by_mappings (markup c b a maps) = ap (λ (z : List Token). Item item.Markup ∷ z)
        (two ((row_of c ++ row_of b) ++ row_of a) (mapping_row maps) ((row_of (mapped f c) ++ row_of (mapped f b)) ++ row_of (mapped f a)) (mapping_row (mapped_mappings f maps))
        (two (row_of c ++ row_of b) (row_of a) (row_of (mapped f c) ++ row_of (mapped f b)) (row_of (mapped f a))
        (two (row_of c) (row_of b) (row_of (mapped f c)) (row_of (mapped f b)) (whole_row c (by_parts c)) (whole_row b (by_parts b))) (whole_row a (by_parts a))) (by_mappings maps))
    by_mappings (insert r maps) = ap (λ (z : List Token). Item item.Insert ∷ z) (two (row_of r) (mapping_row maps) (row_of (mapped f r)) (mapping_row (mapped_mappings f maps)) (whole_row r (by_parts r)) (by_mappings maps))

    by_groups : (groups : Groups Atom) → by (group_row groups) ≡ group_row (mapped_groups f groups)
    by_groups no_group = refl
    by_groups (then_group maps side contexts groups) = ap (λ (z : List Token). Item (item.Rewrite side) ∷ z)
        (two (mapping_row maps ++ context_row contexts) (group_row groups) (mapping_row (mapped_mappings f maps) ++ context_row (mapped_contexts f contexts)) (group_row (mapped_groups f groups))
        (two (mapping_row maps) (context_row contexts) (mapping_row (mapped_mappings f maps)) (context_row (mapped_contexts f contexts)) (by_mappings maps) (by_contexts contexts)) (by_groups groups))

  by_row : (t : Term Atom) → by (row_of t) ≡ row_of (mapped f t)
  by_row t = whole_row t (by_parts t)

  -- an expression with other leaves is this one exactly where its row with other leaves is that of this one
  pub same_rows : (other e : Term Atom) → row_of other ≡ by (row_of e) ↔ other ≡ mapped f e
  same_rows other e = (λ same. same_by_row other (mapped f e) (same ∙ by_row e), λ same. ap row_of same ∙ sym (whole_row e (by_parts e)))
