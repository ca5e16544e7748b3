-- What is asked of names and told at once loads a project.
use Rattle.std.proofs.Common.{ℕ, Some, refl}
use Rattle.fsm_program.specs.Ends.{Ends, Loads, TakesMemory, no_memory}
use Rattle.fsm_program.specs.Naming.{asked_in}
use Rattle.fsm_program.specs.Outside.{FolderKept, Outside, ReadNothing, WroteNothing}
use Rattle.fsm_program.specs.declared.naming.Request.{Request}
use Rattle.fsm_program.specs.declared.naming.Request.TheVariants.{Att, Compared}

pub loads_request : (request : Request) → Loads (asked_in request)
loads_request (Att net) = tt
loads_request (Compared question first second) = tt

takes_request : (request : Request) → TakesMemory (asked_in request)
takes_request (Att net) = tt
takes_request (Compared question first second) = tt

-- there was no memory for the answer
pub ends_without : (version : ℕ) (request : Request) (before after : Outside) → FolderKept before after → ReadNothing before after → WroteNothing before after → Ends version (Some (asked_in request)) before after 5
ends_without version request before after kept unread unwritten = no_memory (asked_in request) refl (takes_request request) kept unread unwritten refl
