-- Which definitions refer to which, by their places: an order of them, and the first of them that reaches itself.
use Rattle.std.specs.Prelude.{◌≡◌, ℕ, List, [], ◌∷◌, cond, length, map, nat_lt, Some, slice_get}
use Rattle.regex_ast.specs.declared.expr.Atom.{Atom}
use Rattle.regex_ast.specs.declared.expr.Atom.TheVariants.{Sym, Name}
use Rattle.regex_ast.specs.declared.fault.Fault.{Fault}
use Rattle.regex_ast.specs.declared.fault.Why.TheVariants as why
use Rattle.regex_ast.specs.Terms.{Term}
use Rattle.std.specs.List.{flat_map}
use Rattle.expr_leaves.specs.Leaves.{listed}
use Rattle.name_order.specs.Orders.{IsFirstCycle}
use Rattle.project_meaning.specs.Trees.{Body}
use Rattle.project_meaning.specs.Leaves.{expressions_of}
use Rattle.project_sources.specs.Faults.{fault}
use Rattle.project_definitions.specs.Plain.{body_of}
use Rattle.project_definitions.specs.declared.definition.Definition.{Definition}

-- the place of a leaf that is a name, where it is the place of a definition
abbrev pub place_in : ℕ → Atom → List ℕ
place_in count (Sym s) = []
place_in count (Name place) = cond (nat_lt place count) (place ∷ []) []

-- the places of the names in an expression
abbrev pub places_in : ℕ → Term Atom → List ℕ
places_in count t = listed (place_in count) t

-- the places of the names in all expressions of a body
abbrev pub body_places : ℕ → Body Atom → List ℕ
body_places count body = flat_map (places_in count) (expressions_of body)

-- for each definition, the places of those that it refers to
abbrev pub references_of : List Definition → List (List ℕ)
references_of definitions = map (λ d. body_places (length definitions) (body_of d.body)) definitions

-- the fault of the first definition that reaches itself
pub record CycleFault (definitions : List Definition) (found : Fault) : Type 0 where
  pub place : ℕ
  pub definition : Definition
  pub first : IsFirstCycle (references_of definitions) place
  pub at : slice_get definitions place ≡ Some definition
  pub is : found ≡ fault definition.file definition.line why.Cycle
