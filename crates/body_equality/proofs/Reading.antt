-- A row of tokens is read back from its end: a head takes the parts of its node from a stack, and puts the node there.
use Rattle.std.proofs.Common.{◌≡◌, List, [], ◌∷◌, ◌++◌, refl, sym, ap, ◌∙◌, append_assoc, append-nil}
use Rattle.regex_ast.specs.declared.expr.Atom.{Atom}
use Rattle.regex_ast.specs.declared.expr.Prefix.{Prefix}
use Rattle.regex_ast.specs.declared.expr.Suffix.{Suffix}
use Rattle.regex_ast.specs.Terms.{Term, Terms, Links, Contexts, Steps, Mappings, Groups, empty, any, edge, atom, letters, group, maybe, not_one, cross, suffixed, prefixed, ignore, concat, chain, only, rules, directed, steps, no_term, then_term, no_link, or, and, less, no_context, between, no_step, cross_with, then, no_mapping, plain, markup, insert, no_group, then_group}
use Rattle.body_equality.specs.Rows.{node_of, letter_row, suffix_row, prefix_row, parts, operand_row, link_row, context_row, step_row, mapping_row, group_row, row_of}
use Rattle.body_equality.specs.declared.token.Token.{Token}
use Rattle.body_equality.specs.declared.token.Token.TheVariants.{Leaf, Node, Item, End}
use Rattle.body_equality.specs.declared.token.Node.{Node as NodeOf}
use Rattle.body_equality.specs.declared.token.Item.{Item as ItemOf}
use Rattle.body_equality.specs.declared.token.Row.{Row as RowOf}
use Rattle.body_equality.specs.declared.token.Node.TheVariants as node
use Rattle.body_equality.specs.declared.token.Item.TheVariants as item
use Rattle.body_equality.specs.declared.token.Row.TheVariants as end

data Held : Type 0 where
  a_leaf : Atom → Held
  a_term : Term Atom → Held
  the_letters : List Atom → Held
  the_suffixes : List Suffix → Held
  the_prefixes : List Prefix → Held
  the_operands : Terms Atom → Held
  the_links : Links Atom → Held
  the_contexts : Contexts Atom → Held
  the_steps : Steps Atom → Held
  the_mappings : Mappings Atom → Held
  the_groups : Groups Atom → Held

-- what stands on the top of a stack, if it is of this kind
abbrev leaves : List Held → List Atom
leaves (a_leaf a ∷ s) = a ∷ []
leaves _ = []

abbrev top : List Held → Term Atom
top (a_term t ∷ s) = t
top _ = empty

abbrev letters_on : List Held → List Atom
letters_on (the_letters all ∷ s) = all
letters_on _ = []

abbrev suffixes_on : List Held → List Suffix
suffixes_on (the_suffixes all ∷ s) = all
suffixes_on _ = []

abbrev prefixes_on : List Held → List Prefix
prefixes_on (the_prefixes all ∷ s) = all
prefixes_on _ = []

abbrev operands_on : List Held → Terms Atom
operands_on (the_operands all ∷ s) = all
operands_on _ = no_term

abbrev links_on : List Held → Links Atom
links_on (the_links all ∷ s) = all
links_on _ = no_link

abbrev contexts_on : List Held → Contexts Atom
contexts_on (the_contexts all ∷ s) = all
contexts_on _ = no_context

abbrev steps_on : List Held → Steps Atom
steps_on (the_steps all ∷ s) = all
steps_on _ = no_step

abbrev mappings_on : List Held → Mappings Atom
mappings_on (the_mappings all ∷ s) = all
mappings_on _ = no_mapping

abbrev groups_on : List Held → Groups Atom
groups_on (the_groups all ∷ s) = all
groups_on _ = no_group

abbrev below : List Held → List Held
below [] = []
below (i ∷ s) = s

abbrev atom_of : List Atom → Term Atom
atom_of [] = empty
atom_of (a ∷ more) = atom a

abbrev put_node : NodeOf → List Held → List Held
put_node node.Empty s = a_term empty ∷ s
put_node node.Any s = a_term any ∷ s
put_node node.Edge s = a_term edge ∷ s
put_node node.Atom s = a_term (atom_of (leaves s)) ∷ below s
put_node node.Letters s = a_term (letters (letters_on s)) ∷ below s
put_node node.Group s = a_term (group (top s)) ∷ below s
put_node node.Maybe s = a_term (maybe (top s)) ∷ below s
put_node (node.NotOne n) s = a_term (not_one n (top s)) ∷ below s
put_node node.Cross s = a_term (cross (top s) (top (below s))) ∷ below (below s)
put_node node.Suffixed s = a_term (suffixed (top s) (suffixes_on (below s))) ∷ below (below s)
put_node node.Prefixed s = a_term (prefixed (prefixes_on s) (top (below s))) ∷ below (below s)
put_node node.Ignore s = a_term (ignore (operands_on s)) ∷ below s
put_node node.Concat s = a_term (concat (operands_on s)) ∷ below s
put_node node.Chain s = a_term (chain (top s) (links_on (below s))) ∷ below (below s)
put_node node.Only s = a_term (only (top s) (contexts_on (below s))) ∷ below (below s)
put_node (node.Rules optional) s = a_term (rules optional (groups_on s)) ∷ below s
put_node (node.Directed way) s = a_term (directed way (mappings_on s) (contexts_on (below s))) ∷ below (below s)
put_node node.Steps s = a_term (steps (top s) (steps_on (below s))) ∷ below (below s)

abbrev put_item : ItemOf → List Held → List Held
put_item item.Letter s = the_letters (leaves s ++ letters_on (below s)) ∷ below (below s)
put_item (item.OneSuffix x) s = the_suffixes (x ∷ suffixes_on s) ∷ below s
put_item (item.OnePrefix x) s = the_prefixes (x ∷ prefixes_on s) ∷ below s
put_item item.Operand s = the_operands (then_term (top s) (operands_on (below s))) ∷ below (below s)
put_item item.Or s = the_links (or (top s) (links_on (below s))) ∷ below (below s)
put_item item.And s = the_links (and (top s) (links_on (below s))) ∷ below (below s)
put_item item.Less s = the_links (less (top s) (links_on (below s))) ∷ below (below s)
put_item item.Between s = the_contexts (between (top s) (top (below s)) (contexts_on (below (below s)))) ∷ below (below (below s))
put_item (item.Rewrite side) s = the_groups (then_group (mappings_on s) side (contexts_on (below s)) (groups_on (below (below s)))) ∷ below (below (below s))
put_item item.Plain s = the_mappings (plain (top s) (top (below s)) (mappings_on (below (below s)))) ∷ below (below (below s))
put_item item.Markup s = the_mappings (markup (top s) (top (below s)) (top (below (below s))) (mappings_on (below (below (below s))))) ∷ below (below (below (below s)))
put_item item.Insert s = the_mappings (insert (top s) (mappings_on (below s))) ∷ below (below s)
put_item item.CrossWith s = the_steps (cross_with (top s) (steps_on (below s))) ∷ below (below s)
put_item item.Then s = the_steps (then (top s) (steps_on (below s))) ∷ below (below s)

abbrev put_end : RowOf → List Held → List Held
put_end end.Letters s = the_letters [] ∷ s
put_end end.Suffixes s = the_suffixes [] ∷ s
put_end end.Prefixes s = the_prefixes [] ∷ s
put_end end.Operands s = the_operands no_term ∷ s
put_end end.Links s = the_links no_link ∷ s
put_end end.Contexts s = the_contexts no_context ∷ s
put_end end.Groups s = the_groups no_group ∷ s
put_end end.Mappings s = the_mappings no_mapping ∷ s
put_end end.Steps s = the_steps no_step ∷ s

-- the stack behind a row
abbrev read : List Token → List Held
read [] = []
read (Leaf a ∷ ts) = a_leaf a ∷ read ts
read (Node n ∷ ts) = put_node n (read ts)
read (Item i ∷ ts) = put_item i (read ts)
read (End r ∷ ts) = put_end r (read ts)

-- a row that puts an item on the stack, whatever follows
abbrev Reads : List Token → Held → Type 0
Reads row item = (rest : List Token) → read (row ++ rest) ≡ item ∷ read rest

-- two rows, one after the other
pair : (a b : List Token) (x y : Held) → Reads a x → Reads b y → (rest : List Token) → read ((a ++ b) ++ rest) ≡ x ∷ y ∷ read rest
pair a b x y ra rb rest = ap read (append_assoc a b rest) ∙ ra (b ++ rest) ∙ ap (λ (s : List Held). x ∷ s) (rb rest)

three : (a b c : List Token) (x y z : Held) → Reads a x → Reads b y → Reads c z → (rest : List Token) → read (((a ++ b) ++ c) ++ rest) ≡ x ∷ y ∷ z ∷ read rest
three a b c x y z ra rb rc rest = ap read (append_assoc (a ++ b) c rest) ∙ pair a b x y ra rb (c ++ rest) ∙ ap (λ (s : List Held). x ∷ y ∷ s) (rc rest)

four : (a b c d : List Token) (x y z w : Held) → Reads a x → Reads b y → Reads c z → Reads d w → (rest : List Token) → read ((((a ++ b) ++ c) ++ d) ++ rest) ≡ x ∷ y ∷ z ∷ w ∷ read rest
four a b c d x y z w ra rb rc rd rest = ap read (append_assoc ((a ++ b) ++ c) d rest) ∙ three a b c x y z ra rb rc (d ++ rest) ∙ ap (λ (s : List Held). x ∷ y ∷ z ∷ s) (rd rest)

reads_letters : (all : List Atom) → Reads (letter_row all) (the_letters all)
reads_letters [] rest = refl
reads_letters (a ∷ more) rest = ap (λ (s : List Held). put_item item.Letter (a_leaf a ∷ s)) (reads_letters more rest)

reads_suffixes : (all : List Suffix) → Reads (suffix_row all) (the_suffixes all)
reads_suffixes [] rest = refl
reads_suffixes (x ∷ xs) rest = ap (put_item (item.OneSuffix x)) (reads_suffixes xs rest)

reads_prefixes : (all : List Prefix) → Reads (prefix_row all) (the_prefixes all)
reads_prefixes [] rest = refl
reads_prefixes (x ∷ xs) rest = ap (put_item (item.OnePrefix x)) (reads_prefixes xs rest)

mutual
  reads_term : (t : Term Atom) → Reads (row_of t) (a_term t)
  reads_term empty rest = refl
  reads_term any rest = refl
  reads_term edge rest = refl
  reads_term (atom a) rest = refl
  reads_term (letters all) rest = ap (put_node node.Letters) (reads_letters all rest)
  reads_term (group e) rest = ap (put_node node.Group) (reads_term e rest)
  reads_term (maybe e) rest = ap (put_node node.Maybe) (reads_term e rest)
  reads_term (not_one n e) rest = ap (put_node (node.NotOne n)) (reads_term e rest)
  reads_term (cross e f) rest = ap (put_node node.Cross) (pair (row_of e) (row_of f) (a_term e) (a_term f) (reads_term e) (reads_term f) rest)
  reads_term (suffixed e all) rest = ap (put_node node.Suffixed) (pair (row_of e) (suffix_row all) (a_term e) (the_suffixes all) (reads_term e) (reads_suffixes all) rest)
  reads_term (prefixed all e) rest = ap (put_node node.Prefixed) (pair (prefix_row all) (row_of e) (the_prefixes all) (a_term e) (reads_prefixes all) (reads_term e) rest)
  reads_term (ignore es) rest = ap (put_node node.Ignore) (reads_operands es rest)
  reads_term (concat es) rest = ap (put_node node.Concat) (reads_operands es rest)
  reads_term (chain e links) rest = ap (put_node node.Chain) (pair (row_of e) (link_row links) (a_term e) (the_links links) (reads_term e) (reads_links links) rest)
  reads_term (only e contexts) rest = ap (put_node node.Only) (pair (row_of e) (context_row contexts) (a_term e) (the_contexts contexts) (reads_term e) (reads_contexts contexts) rest)
  reads_term (rules optional groups) rest = ap (put_node (node.Rules optional)) (reads_groups groups rest)
  reads_term (directed way maps contexts) rest = ap (put_node (node.Directed way)) (pair (mapping_row maps) (context_row contexts) (the_mappings maps) (the_contexts contexts) (reads_mappings maps) (reads_contexts contexts) rest)
  reads_term (steps e more) rest = ap (put_node node.Steps) (pair (row_of e) (step_row more) (a_term e) (the_steps more) (reads_term e) (reads_steps more) rest)

  reads_operands : (es : Terms Atom) → Reads (operand_row es) (the_operands es)
  reads_operands no_term rest = refl
  reads_operands (then_term e es) rest = ap (put_item item.Operand) (pair (row_of e) (operand_row es) (a_term e) (the_operands es) (reads_term e) (reads_operands es) rest)

  reads_links : (links : Links Atom) → Reads (link_row links) (the_links links)
  reads_links no_link rest = refl
  reads_links (or e links) rest = ap (put_item item.Or) (pair (row_of e) (link_row links) (a_term e) (the_links links) (reads_term e) (reads_links links) rest)
  reads_links (and e links) rest = ap (put_item item.And) (pair (row_of e) (link_row links) (a_term e) (the_links links) (reads_term e) (reads_links links) rest)
  reads_links (less e links) rest = ap (put_item item.Less) (pair (row_of e) (link_row links) (a_term e) (the_links links) (reads_term e) (reads_links links) rest)

  reads_contexts : (contexts : Contexts Atom) → Reads (context_row contexts) (the_contexts contexts)
  reads_contexts no_context rest = refl
  reads_contexts (between l r contexts) rest = ap (put_item item.Between) (three (row_of l) (row_of r) (context_row contexts) (a_term l) (a_term r) (the_contexts contexts) (reads_term l) (reads_term r) (reads_contexts contexts) rest)

  reads_steps : (more : Steps Atom) → Reads (step_row more) (the_steps more)
  reads_steps no_step rest = refl
  reads_steps (cross_with e more) rest = ap (put_item item.CrossWith) (pair (row_of e) (step_row more) (a_term e) (the_steps more) (reads_term e) (reads_steps more) rest)
  reads_steps (then e more) rest = ap (put_item item.Then) (pair (row_of e) (step_row more) (a_term e) (the_steps more) (reads_term e) (reads_steps more) rest)

  reads_mappings : (maps : Mappings Atom) → Reads (mapping_row maps) (the_mappings maps)
  reads_mappings no_mapping rest = refl
  reads_mappings (plain c r maps) rest = ap (put_item item.Plain) (three (row_of c) (row_of r) (mapping_row maps) (a_term c) (a_term r) (the_mappings maps) (reads_term c) (reads_term r) (reads_mappings maps) rest)
  reads_mappings (markup c b a maps) rest = ap (put_item item.Markup) (four (row_of c) (row_of b) (row_of a) (mapping_row maps) (a_term c) (a_term b) (a_term a) (the_mappings maps) (reads_term c) (reads_term b) (reads_term a) (reads_mappings maps) rest)
  reads_mappings (insert r maps) rest = ap (put_item item.Insert) (pair (row_of r) (mapping_row maps) (a_term r) (the_mappings maps) (reads_term r) (reads_mappings maps) rest)

  reads_groups : (groups : Groups Atom) → Reads (group_row groups) (the_groups groups)
  reads_groups no_group rest = refl
  reads_groups (then_group maps side contexts groups) rest = ap (put_item (item.Rewrite side)) (three (mapping_row maps) (context_row contexts) (group_row groups) (the_mappings maps) (the_contexts contexts) (the_groups groups) (reads_mappings maps) (reads_contexts contexts) (reads_groups groups) rest)

reads_alone : (t : Term Atom) → read (row_of t) ≡ a_term t ∷ []
reads_alone t = ap read (sym (append-nil (row_of t))) ∙ reads_term t []

-- different expressions have different rows
pub same_by_row : (t u : Term Atom) → row_of t ≡ row_of u → t ≡ u
same_by_row t u same =
    let both : a_term t ∷ [] ≡ a_term u ∷ [] = sym (reads_alone t) ∙ ap read same ∙ reads_alone u in
    ap top both
