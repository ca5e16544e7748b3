use Rattle.std.proofs.Common.{◌∙◌, List, IfOk, subst}
use Rattle.project_definitions.specs.declared.definition.Definition.{Definition}
use Rattle.project_sources.specs.Sources.{project_in}
use Rattle.touched_names.specs.Touched.{AreTouched}
use Rattle.project_versions.proofs.Naming.{stand_as}
use Rattle.project_versions.proofs.rebuilt.touched_places.Goals as goal

pub returns : goal.returns
returns c was is from_was from_is =
    let old_definitions = c.definitions.ensures.definitions ∙ c.plan-before.ensures.definitions in
    let new_definitions = c.definitions-2.ensures.definitions ∙ c.plan-plan.ensures.definitions in
    let stood = stand_as was c.args.old.now from_was c.definitions.result.now c.alphabet.result.now old_definitions c.alphabet.ensures in
    let stands = stand_as is c.args.new.now from_is c.definitions-2.result.now c.alphabet-2.result.now new_definitions c.alphabet-2.ensures in
    subst (λ (ds : List Definition). IfOk c.touched.result (λ places. AreTouched (project_in was) (project_in is) ds places.items)) new_definitions (c.touched.ensures was is stood stands)
