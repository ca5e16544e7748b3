-- Expressions as plain trees, without where they lie in memory. Definitions of reading and of meaning
-- speak of these, and a clause sees an expression of the program as its `term`.
use Rattle.std.specs.Prelude.{ℕ, Bool, List, [], ◌∷◌}
use Rattle.regex_ast.specs.declared.expr.Suffix.{Suffix}
use Rattle.regex_ast.specs.declared.expr.Prefix.{Prefix}
use Rattle.regex_ast.specs.declared.expr.Side.{Side}
use Rattle.regex_ast.specs.declared.expr.Way.{Way}
use Rattle.regex_ast.specs.declared.expr.Expr.{Expr, Empty, Any, Edge, Atom, Letters, Group', Maybe', NotOne', Cross', Suffixed', Prefixed', Ignore', Concat', Chain', Only', Rules, Directed, Steps', Row_of-Expr, end_of-Expr, more_of-Expr, Row_of-Link, end_of-Link, more_of-Link, Row_of-Context, end_of-Context, more_of-Context, Row_of-Step, end_of-Step, more_of-Step}
use Rattle.regex_ast.specs.declared.expr.Expr.{items-the_row-Context}
use Rattle.regex_ast.specs.declared.expr.Context.{Context}
use Rattle.regex_ast.specs.declared.expr.Link.{Link, Or, And, Less}
use Rattle.regex_ast.specs.declared.expr.Step.{Step, CrossWith, Then}
use Rattle.regex_ast.specs.declared.expr.Mapping.{Mapping, Plain, Markup, Insert}
use Rattle.regex_ast.specs.declared.expr.RuleSet.{RuleSet', Row_of-Group, end_of-Group, more_of-Group}
use Rattle.regex_ast.specs.declared.expr.Directed.{Directed' as Directed_of}
use Rattle.regex_ast.specs.declared.expr.Group.{Group, Group' as Group_of, Row_of-Mapping, end_of-Mapping, more_of-Mapping, items-the_row-Mapping}

mutual
  pub data Term (A : Type 0) : Type 0 where
    empty : Term A
    any : Term A
    edge : Term A
    atom : A → Term A
    letters : List A → Term A
    group : Term A → Term A
    maybe : Term A → Term A
    not_one : ℕ → Term A → Term A
    cross : Term A → Term A → Term A
    suffixed : Term A → List Suffix → Term A
    prefixed : List Prefix → Term A → Term A
    ignore : Terms A → Term A
    concat : Terms A → Term A
    chain : Term A → Links A → Term A
    only : Term A → Contexts A → Term A
    rules : Bool → Groups A → Term A
    directed : Way → Mappings A → Contexts A → Term A
    steps : Term A → Steps A → Term A

  pub data Terms (A : Type 0) : Type 0 where
    no_term : Terms A
    then_term : Term A → Terms A → Terms A

  -- operands of a row of `|`, `&` and `-`, each with the operator before it
  pub data Links (A : Type 0) : Type 0 where
    no_link : Links A
    or : Term A → Links A → Links A
    and : Term A → Links A → Links A
    less : Term A → Links A → Links A

  -- contexts, each by its left and its right part
  pub data Contexts (A : Type 0) : Type 0 where
    no_context : Contexts A
    between : Term A → Term A → Contexts A → Contexts A

  -- operands of a row of `.x.` and `.o.`, each with the operator before it
  pub data Steps (A : Type 0) : Type 0 where
    no_step : Steps A
    cross_with : Term A → Steps A → Steps A
    then : Term A → Steps A → Steps A

  -- mappings of a group: centre and result; centre, before and after; result
  pub data Mappings (A : Type 0) : Type 0 where
    no_mapping : Mappings A
    plain : Term A → Term A → Mappings A → Mappings A
    markup : Term A → Term A → Term A → Mappings A → Mappings A
    insert : Term A → Mappings A → Mappings A

  -- groups of a rule set, each by its mappings, the sides on which its contexts are read, and these
  pub data Groups (A : Type 0) : Type 0 where
    no_group : Groups A
    then_group : Mappings A → Side → Contexts A → Groups A → Groups A

abbrev mutual
  -- the plain tree of an expression
  pub term : {A : Type 0} → Expr A → Term A
  term Empty = empty
  term Any = any
  term Edge = edge
  term (Atom a) = atom a
  term (Letters all) = letters all.items
  term (Group' p e) = group (term e)
  term (Maybe' p e) = maybe (term e)
  term (NotOne' n p e) = not_one n (term e)
  term (Cross' p e q f) = cross (term e) (term f)
  term (Suffixed' p e all) = suffixed (term e) all.items
  term (Prefixed' all p e) = prefixed all.items (term e)
  term (Ignore' shape row) = ignore (terms row)
  term (Concat' shape row) = concat (terms row)
  term (Chain' p e shape row) = chain (term e) (links row)
  term (Only' p e shape row) = only (term e) (contexts row)
  term (Rules (RuleSet' optional shape row)) = rules optional (groups row)
  term (Directed (Directed_of way shape maps shape' all)) = directed way (mappings maps) (contexts all)
  term (Steps' p e shape row) = steps (term e) (steps_of row)

  pub terms : {A : Type 0} {n : _} → Row_of-Expr A n → Terms A
  terms end_of-Expr = no_term
  terms (more_of-Expr e row) = then_term (term e) (terms row)

  pub links : {A : Type 0} {n : _} → Row_of-Link A n → Links A
  links end_of-Link = no_link
  links (more_of-Link (Or e) row) = or (term e) (links row)
  links (more_of-Link (And e) row) = and (term e) (links row)
  links (more_of-Link (Less e) row) = less (term e) (links row)

  pub contexts : {A : Type 0} {n : _} → Row_of-Context A n → Contexts A
  contexts end_of-Context = no_context
  contexts (more_of-Context l r row) = between (term l) (term r) (contexts row)

  pub steps_of : {A : Type 0} {n : _} → Row_of-Step A n → Steps A
  steps_of end_of-Step = no_step
  steps_of (more_of-Step (CrossWith e) row) = cross_with (term e) (steps_of row)
  steps_of (more_of-Step (Then e) row) = then (term e) (steps_of row)

  pub mappings : {A : Type 0} {n : _} → Row_of-Mapping A n → Mappings A
  mappings end_of-Mapping = no_mapping
  mappings (more_of-Mapping (Plain c r) row) = plain (term c) (term r) (mappings row)
  mappings (more_of-Mapping (Markup c b a) row) = markup (term c) (term b) (term a) (mappings row)
  mappings (more_of-Mapping (Insert r) row) = insert (term r) (mappings row)

  pub groups : {A : Type 0} {n : _} → Row_of-Group A n → Groups A
  groups end_of-Group = no_group
  groups (more_of-Group (Group_of shape maps side shape' all) row) = then_group (mappings maps) side (contexts all) (groups row)

-- what stands in a node, by its list
abbrev pub terms_of : {A : Type 0} → List (Term A) → Terms A
terms_of [] = no_term
terms_of (t ∷ ts) = then_term t (terms_of ts)

abbrev pub links_of : {A : Type 0} → List (Link A) → Links A
links_of [] = no_link
links_of (Or e ∷ ls) = or (term e) (links_of ls)
links_of (And e ∷ ls) = and (term e) (links_of ls)
links_of (Less e ∷ ls) = less (term e) (links_of ls)

abbrev pub contexts_of : {A : Type 0} → List (Context A) → Contexts A
contexts_of [] = no_context
contexts_of (c ∷ cs) = between (term c.left) (term c.right) (contexts_of cs)

abbrev pub steps_by : {A : Type 0} → List (Step A) → Steps A
steps_by [] = no_step
steps_by (CrossWith e ∷ ss) = cross_with (term e) (steps_by ss)
steps_by (Then e ∷ ss) = then (term e) (steps_by ss)

abbrev pub mappings_of : {A : Type 0} → List (Mapping A) → Mappings A
mappings_of [] = no_mapping
mappings_of (Plain c r ∷ ms) = plain (term c) (term r) (mappings_of ms)
mappings_of (Markup c b a ∷ ms) = markup (term c) (term b) (term a) (mappings_of ms)
mappings_of (Insert r ∷ ms) = insert (term r) (mappings_of ms)

-- the parts of a group
abbrev pub maps_of : {A : Type 0} → Group A → List (Mapping A)
maps_of {A} (Group_of shape maps side shape' all) = items-the_row-Mapping A _ maps

abbrev pub side_of : {A : Type 0} → Group A → Side
side_of (Group_of shape maps side shape' all) = side

abbrev pub contexts_in : {A : Type 0} → Group A → List (Context A)
contexts_in {A} (Group_of shape maps side shape' all) = items-the_row-Context A _ all

abbrev pub groups_of : {A : Type 0} → List (Group A) → Groups A
groups_of [] = no_group
groups_of (g ∷ gs) = then_group (mappings_of (maps_of g)) (side_of g) (contexts_of (contexts_in g)) (groups_of gs)
