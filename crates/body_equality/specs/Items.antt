-- The items of lists as rows of tokens.
use Rattle.std.specs.Prelude.{List, ◌∷◌, ◌++◌}
use Rattle.regex_ast.specs.declared.expr.Atom.{Atom}
use Rattle.regex_ast.specs.declared.expr.Context.{Context}
use Rattle.regex_ast.specs.declared.expr.Group.{Group}
use Rattle.regex_ast.specs.declared.expr.Link.{Link, Or, And, Less}
use Rattle.regex_ast.specs.declared.expr.Mapping.{Mapping, Plain, Markup, Insert}
use Rattle.regex_ast.specs.declared.expr.Step.{Step, CrossWith, Then}
use Rattle.regex_ast.specs.Terms.{term, maps_of, side_of, contexts_in, mappings_of, contexts_of}
use Rattle.body_equality.specs.Rows.{context_row, mapping_row, row_of}
use Rattle.body_equality.specs.declared.token.Token.{Token}
use Rattle.body_equality.specs.declared.token.Token.TheVariants.{Node, Item, End}
use Rattle.body_equality.specs.declared.token.Node.TheVariants as node
use Rattle.body_equality.specs.declared.token.Item.TheVariants as item
use Rattle.body_equality.specs.declared.token.Row.TheVariants as end

abbrev pub link_item : Link Atom → List Token
link_item (Or e) = Item item.Or ∷ row_of (term e)
link_item (And e) = Item item.And ∷ row_of (term e)
link_item (Less e) = Item item.Less ∷ row_of (term e)

abbrev pub step_item : Step Atom → List Token
step_item (CrossWith e) = Item item.CrossWith ∷ row_of (term e)
step_item (Then e) = Item item.Then ∷ row_of (term e)

abbrev pub context_item : Context Atom → List Token
context_item c = (Item item.Between ∷ row_of (term c.left)) ++ row_of (term c.right)

abbrev pub mapping_item : Mapping Atom → List Token
mapping_item (Plain c r) = (Item item.Plain ∷ row_of (term c)) ++ row_of (term r)
mapping_item (Markup c b a) = ((Item item.Markup ∷ row_of (term c)) ++ row_of (term b)) ++ row_of (term a)
mapping_item (Insert r) = Item item.Insert ∷ row_of (term r)

abbrev pub group_item : Group Atom → List Token
group_item g = (Item (item.Rewrite (side_of g)) ∷ mapping_row (mappings_of (maps_of g))) ++ context_row (contexts_of (contexts_in g))
