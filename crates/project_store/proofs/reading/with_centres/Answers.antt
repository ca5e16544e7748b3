use Rattle.std.proofs.Common.{◌∙◌, ◌<◌, List, length, subst, sym}
use Rattle.project_definitions.specs.declared.definition.Definition.{Definition}
use Rattle.project_store.proofs.Trying.{first_empty, first_within, none_empty, none_marked}
use Rattle.project_store.proofs.Named.{stands_at}
use Rattle.project_store.proofs.reading.with_centres.Goals as goal

pub returns-in_default-clause-built : goal.returns-in_default-clause-built
returns-in_default-clause-built c = none_marked c.args.project.now c.in_ok-tried.tried.built.items c.in_ok-tried.tried.empty.items c.in_ok-tried.ensures.tried c.in_default.ensures

pub returns-in_default-clause-filled : goal.returns-in_default-clause-filled
returns-in_default-clause-filled c = none_empty c.args.project.now c.in_ok-tried.tried.built.items c.in_ok-tried.tried.empty.items c.in_ok-tried.ensures.tried c.in_default.ensures

pub returns-clause-error : goal.returns-clause-error
returns-clause-error c =
    let tried = c.in_ok-tried.tried in
    let same = c.definitions.ensures.definitions ∙ c.plan.ensures.definitions in
    let within = first_within c.args.project.now tried.built.items tried.empty.items c.in_ok-tried.ensures.tried c.in-Some.place c.in-Some.ensures in
    let below = subst (λ (ds : List Definition). c.in-Some.place < length ds) (sym same) within in
    let d = c.index-definitions-place.result in
    (c.in-Some.place, d, stands_at c.definitions.result.now c.args.project.now.definitions c.in-Some.place d same below c.index-definitions-place.is, first_empty c.args.project.now tried.built.items tried.empty.items c.in_ok-tried.ensures.tried c.in-Some.place c.in-Some.ensures, c.in_ok-fault.ensures)
