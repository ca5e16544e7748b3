-- Expressions written as rows of tokens: the head of each node stands before its parts, from left to right, and each list has an end.
use Rattle.std.specs.Prelude.{Bool, List, [], ◌∷◌, ◌++◌}
use Rattle.regex_ast.specs.declared.expr.Atom.{Atom}
use Rattle.regex_ast.specs.declared.expr.Prefix.{Prefix}
use Rattle.regex_ast.specs.declared.expr.Suffix.{Suffix}
use Rattle.regex_ast.specs.Terms.{Term, Terms, Links, Contexts, Steps, Mappings, Groups, empty, any, edge, atom, letters, group, maybe, not_one, cross, suffixed, prefixed, ignore, concat, chain, only, rules, directed, steps, no_term, then_term, no_link, or, and, less, no_context, between, no_step, cross_with, then, no_mapping, plain, markup, insert, no_group, then_group}
use Rattle.body_equality.specs.declared.token.Token.{Token}
use Rattle.body_equality.specs.declared.token.Token.TheVariants.{Leaf, Node, Item, End}
use Rattle.body_equality.specs.declared.token.Node.{Node as NodeOf}
use Rattle.body_equality.specs.declared.token.Node.TheVariants as node
use Rattle.body_equality.specs.declared.token.Item.TheVariants as item
use Rattle.body_equality.specs.declared.token.Row.TheVariants as end

abbrev pub node_of : {A : Type 0} → Term A → NodeOf
node_of empty = node.Empty
node_of any = node.Any
node_of edge = node.Edge
node_of (atom a) = node.Atom
node_of (letters all) = node.Letters
node_of (group e) = node.Group
node_of (maybe e) = node.Maybe
node_of (not_one n e) = node.NotOne n
node_of (cross e f) = node.Cross
node_of (suffixed e all) = node.Suffixed
node_of (prefixed all e) = node.Prefixed
node_of (ignore es) = node.Ignore
node_of (concat es) = node.Concat
node_of (chain e links) = node.Chain
node_of (only e contexts) = node.Only
node_of (rules optional groups) = node.Rules optional
node_of (directed way maps contexts) = node.Directed way
node_of (steps e more) = node.Steps

abbrev pub letter_row : List Atom → List Token
letter_row [] = End end.Letters ∷ []
letter_row (a ∷ more) = Item item.Letter ∷ Leaf a ∷ letter_row more

abbrev pub suffix_row : List Suffix → List Token
suffix_row [] = End end.Suffixes ∷ []
suffix_row (s ∷ ss) = Item (item.OneSuffix s) ∷ suffix_row ss

abbrev pub prefix_row : List Prefix → List Token
prefix_row [] = End end.Prefixes ∷ []
prefix_row (p ∷ ps) = Item (item.OnePrefix p) ∷ prefix_row ps

abbrev mutual
  -- the parts of an expression
  pub parts : Term Atom → List Token
  parts (atom a) = Leaf a ∷ []
  parts (letters all) = letter_row all
  parts (group e) = Node (node_of e) ∷ parts e
  parts (maybe e) = Node (node_of e) ∷ parts e
  parts (not_one n e) = Node (node_of e) ∷ parts e
  parts (cross e f) = (Node (node_of e) ∷ parts e) ++ (Node (node_of f) ∷ parts f)
  parts (suffixed e all) = (Node (node_of e) ∷ parts e) ++ suffix_row all
  parts (prefixed all e) = prefix_row all ++ (Node (node_of e) ∷ parts e)
  parts (ignore es) = operand_row es
  parts (concat es) = operand_row es
  parts (chain e links) = (Node (node_of e) ∷ parts e) ++ link_row links
  parts (only e contexts) = (Node (node_of e) ∷ parts e) ++ context_row contexts
  parts (rules optional groups) = group_row groups
  parts (directed way maps contexts) = mapping_row maps ++ context_row contexts
  parts (steps e more) = (Node (node_of e) ∷ parts e) ++ step_row more
  -- the empty string, `?` and `.#.` have no parts
  parts _ = []

  pub operand_row : Terms Atom → List Token
  operand_row no_term = End end.Operands ∷ []
  operand_row (then_term e es) = (Item item.Operand ∷ Node (node_of e) ∷ parts e) ++ operand_row es

  pub link_row : Links Atom → List Token
  link_row no_link = End end.Links ∷ []
  link_row (or e links) = (Item item.Or ∷ Node (node_of e) ∷ parts e) ++ link_row links
  link_row (and e links) = (Item item.And ∷ Node (node_of e) ∷ parts e) ++ link_row links
  link_row (less e links) = (Item item.Less ∷ Node (node_of e) ∷ parts e) ++ link_row links

  pub context_row : Contexts Atom → List Token
  context_row no_context = End end.Contexts ∷ []
  context_row (between l r contexts) = ((Item item.Between ∷ Node (node_of l) ∷ parts l) ++ (Node (node_of r) ∷ parts r)) ++ context_row contexts

  pub step_row : Steps Atom → List Token
  step_row no_step = End end.Steps ∷ []
  step_row (cross_with e more) = (Item item.CrossWith ∷ Node (node_of e) ∷ parts e) ++ step_row more
  step_row (then e more) = (Item item.Then ∷ Node (node_of e) ∷ parts e) ++ step_row more

  pub mapping_row : Mappings Atom → List Token
  mapping_row no_mapping = End end.Mappings ∷ []
  mapping_row (plain c r maps) = ((Item item.Plain ∷ Node (node_of c) ∷ parts c) ++ (Node (node_of r) ∷ parts r)) ++ mapping_row maps
  mapping_row (markup c b a maps) = (((Item item.Markup ∷ Node (node_of c) ∷ parts c) ++ (Node (node_of b) ∷ parts b)) ++ (Node (node_of a) ∷ parts a)) ++ mapping_row maps
  mapping_row (insert r maps) = (Item item.Insert ∷ Node (node_of r) ∷ parts r) ++ mapping_row maps

  pub group_row : Groups Atom → List Token
  group_row no_group = End end.Groups ∷ []
  group_row (then_group maps side contexts groups) = ((Item (item.Rewrite side) ∷ mapping_row maps) ++ context_row contexts) ++ group_row groups

-- an expression as a row
abbrev pub row_of : Term Atom → List Token
row_of e = Node (node_of e) ∷ parts e

-- a token with another leaf for each
abbrev pub token_by : (Atom → Atom) → Token → Token
token_by f (Leaf a) = Leaf (f a)
token_by f (Node n) = Node n
token_by f (Item i) = Item i
token_by f (End row) = End row
