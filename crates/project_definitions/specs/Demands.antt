-- What is asked of definitions, and the fault of the first that doesn't meet it.
use Rattle.std.specs.Prelude.{◌≤◌, IsTrue, List, [], ◌∷◌}
use Rattle.regex_ast.specs.declared.fault.Fault.{Fault}
use Rattle.regex_ast.specs.declared.fault.Why.{Why}
use Rattle.regex_ast.specs.declared.fault.Why.TheVariants as why
use Rattle.regex_ast.specs.declared.expr.Atom.{Atom}
use Rattle.expr_kinds.specs.Atoms.{leaves_at, weights_at}
use Rattle.expr_kinds.specs.Weights.{most_weight}
use Rattle.expr_kinds.specs.declared.form.Form.{Form}
use Rattle.grammar_weights.specs.Weights.{is_same_symbol}
use Rattle.project_manifest.specs.Rows.{First, Where}
use Rattle.project_meaning.specs.Trees.{Body}
use Rattle.project_sources.specs.Faults.{fault}
use Rattle.project_definitions.specs.Bodies.{BodyFitsBy, weight_of_body}
use Rattle.project_definitions.specs.Plain.{body_of}
use Rattle.project_definitions.specs.declared.definition.Definition.{Definition}
use Rattle.project_definitions.specs.declared.demands.Demand.{Demand}
use Rattle.project_definitions.specs.declared.demands.Demand.TheVariants as demand

-- what is asked of a definition where names have these forms: that each operand that must be a language is one, and that it isn't
-- too heavy
abbrev pub Meets : List Form → Demand → Body Atom → Type 0
Meets forms demand.Fits body = BodyFitsBy (leaves_at forms) body
Meets forms demand.Light body = weight_of_body (weights_at forms) is_same_symbol body ≤ most_weight

-- the same by what is told of its form
abbrev pub FormMeets : Demand → Form → Type 0
FormMeets demand.Fits form = IsTrue form.fits
FormMeets demand.Light form = form.weight ≤ most_weight

abbrev pub why_not : Demand → Why
why_not demand.Fits = why.NotALanguage
why_not demand.Light = why.LimitWeight

abbrev pub DoesMeet : List Form → Demand → Definition → Type 0
DoesMeet forms asked d = Meets forms asked (body_of d.body)

-- the fault of the first definition that doesn't meet it
abbrev pub DemandFault : List Definition → List Form → Demand → Fault → Type 0
DemandFault definitions forms asked found = First (λ d. Where (DoesMeet forms asked d → ⊥) (fault d.file d.line (why_not asked))) definitions found

abbrev pub demands : List Demand
demands = demand.Fits ∷ demand.Light ∷ []
