-- A plan as contracts see it: its definitions with their forms, the symbols of its alphabet, and the glosses of its files.
use Rattle.std.specs.Prelude.{◌≡◌, ℕ, List, length, map, All, Some, slice_get}
use Rattle.fsm_base.specs.declared.letters.Sym.{Sym}
use Rattle.word_relations.specs.Words.{IsDistinct}
use Rattle.interlinear.specs.Glosses.{Entry as Glossed}
use Rattle.expr_kinds.specs.Atoms.{kind_at, leaves_at}
use Rattle.expr_kinds.specs.declared.form.Form.{Form}
use Rattle.project_definitions.specs.Bodies.{kind_of_body}
use Rattle.project_definitions.specs.Plain.{body_of}
use Rattle.project_model.specs.Sound.{IsSound}
use Rattle.project_definitions.specs.declared.definition.Definition.{Definition}
use Rattle.name_order.specs.Orders.{IsOrder}
use Rattle.project_definitions.specs.Referring.{references_of}

pub record PlanView : Type 0 where
  pub definitions : List Definition
  pub symbols : List Sym
  pub forms : List Form
  pub glosses : List Glossed

-- the definition can be built over these symbols, where names have these forms
abbrev pub IsSoundOver : List Form → List Sym → Definition → Type 0
IsSoundOver forms symbols d = IsSound forms symbols (body_of d.body)

-- there is a form at the place of each definition. It has the kind of what the definition stands for, where each name has the kind of
-- the form at its place
pub record HaveKinds (definitions : List Definition) (forms : List Form) : Type 0 where
  pub count : length forms ≡ length definitions
  pub kinds : (place : ℕ) (d : Definition) → slice_get definitions place ≡ Some d → kind_at forms place ≡ kind_of_body (leaves_at forms) (body_of d.body)

-- each symbol stands once, and each definition has a name of its own, a form, and can be built over the symbols
pub record IsPlan (plan : PlanView) : Type 0 where
  pub distinct : IsDistinct plan.symbols
  pub names : IsDistinct (map (λ d. d.name) plan.definitions)
  pub forms : HaveKinds plan.definitions plan.forms
  pub sound : All (IsSoundOver plan.forms plan.symbols) plan.definitions

-- a plan, with the places of its definitions in an order in which each stands behind those that it refers to
pub record IsOrderedPlan (plan : PlanView) (order : List ℕ) : Type 0 where
  pub formed : IsPlan plan
  pub ordered : IsOrder (references_of plan.definitions) order
