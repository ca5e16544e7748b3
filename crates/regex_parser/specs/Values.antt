-- What the program's values stand for in the grammar.
use Rattle.std.specs.Prelude.{ℕ, zero, suc, List, map, Option}
use Rattle.std.specs.Option.{option_map}
use Rattle.regex_ast.specs.Terms.{Term, term, not_one, maps_of, side_of, contexts_in}
use Rattle.regex_ast.specs.declared.expr.Context.{Context}
use Rattle.regex_ast.specs.declared.expr.Group.{Group}
use Rattle.regex_ast.specs.declared.expr.Link.{Link, Or, And, Less}
use Rattle.regex_ast.specs.declared.expr.Mapping.{Mapping, Plain, Markup, Insert}
use Rattle.regex_ast.specs.declared.expr.Raw.{Raw}
use Rattle.regex_ast.specs.declared.expr.Side.{Side}
use Rattle.regex_ast.specs.declared.expr.Step.{Step, CrossWith, Then}
use Rattle.regex_grammar.specs.Grammar.{Linked, or_else, and_also, but_not, StepForm, crossing, composing, ContextTerm, SidedTerm, MappingTerm, plain_mapping, marking, inserting, GroupTerm}
use Rattle.regex_parser.specs.declared.front.LinkOperator.{LinkOperator}
use Rattle.regex_parser.specs.declared.front.LinkOperator.TheVariants.{Or as or_operator, And as and_operator, Less as less_operator}
use Rattle.regex_parser.specs.declared.front.StepOperator.{StepOperator}
use Rattle.regex_parser.specs.declared.front.StepOperator.TheVariants.{CrossWith as cross_operator, Then as then_operator}

-- what is made of what was read, and the tokens behind it
abbrev pub made : {K T U : Type 0} → (T → U) → Option (T × List K) → Option (U × List K)
made make read = option_map (λ x. (make x.0, x.1)) read

-- an operand behind so many backslashes
abbrev pub not_one_of : ℕ → Term Raw → Term Raw
not_one_of zero t = t
not_one_of (suc n) t = not_one (suc n) t

-- an operator and its operand
abbrev pub linked_by : {T : Type 0} → LinkOperator → T → Linked T
linked_by or_operator t = or_else t
linked_by and_operator t = and_also t
linked_by less_operator t = but_not t

abbrev pub step_by : {T : Type 0} → StepOperator → T → StepForm T
step_by cross_operator t = crossing t
step_by then_operator t = composing t

abbrev pub link_value : {A : Type 0} → Link A → Linked (Term A)
link_value (Or e) = or_else (term e)
link_value (And e) = and_also (term e)
link_value (Less e) = but_not (term e)

abbrev pub step_value : {A : Type 0} → Step A → StepForm (Term A)
step_value (CrossWith e) = crossing (term e)
step_value (Then e) = composing (term e)

abbrev pub context_value : {A : Type 0} → Context A → ContextTerm A
context_value c = record { left = term c.left; right = term c.right }

abbrev pub sided_value : {A : Type 0} → Side → List (Context A) → SidedTerm A
sided_value side contexts = record { side = side; contexts = map context_value contexts }

abbrev pub mapping_value : {A : Type 0} → Mapping A → MappingTerm A
mapping_value (Plain c r) = plain_mapping (term c) (term r)
mapping_value (Markup c b a) = marking (term c) (term b) (term a)
mapping_value (Insert r) = inserting (term r)

abbrev pub group_value : {A : Type 0} → Group A → GroupTerm A
group_value g = record { maps = map mapping_value (maps_of g); sided = sided_value (side_of g) (contexts_in g) }
