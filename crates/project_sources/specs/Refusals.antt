-- Why sources, or an edit of them, are refused.
use Rattle.std.specs.Prelude.{◌≡◌, ⊤}
use Rattle.regex_ast.specs.declared.fault.Fault.{Fault}
use Rattle.project_sources.specs.declared.plan_error.PlanError.{PlanError}
use Rattle.project_sources.specs.declared.plan_error.PlanError.TheVariants.{Refused, Memory}

-- refused for such a fault, or for want of memory
abbrev pub IsRefusedBy : (Fault → Type 0) → PlanError → Type 0
IsRefusedBy IsFault (Refused found) = IsFault found
IsRefusedBy IsFault (Memory refused) = ⊤

-- refused for this fault
abbrev pub IsRefusal : Fault → PlanError → Type 0
IsRefusal fault error = IsRefusedBy (λ found. found ≡ fault) error
