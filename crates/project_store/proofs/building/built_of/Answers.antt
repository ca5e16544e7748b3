use Rattle.std.proofs.Common.{◌<◌, ◌∙◌, List, length, rules, subst, sym}
use Rattle.project_definitions.specs.declared.definition.Definition.{Definition}
use Rattle.project_store.proofs.Named.{stands_at}
use Rattle.project_store.proofs.Networks.{built_as, built_over, filled_as, fits, formed, ground, why_as}
use Rattle.project_store.proofs.building.built_of.Goals as goal

pub bounds-all-place : goal.bounds-all-place
bounds-all-place c = subst (λ (ds : List Definition). c.args.place < length ds) (sym (c.definitions-all.ensures.definitions ∙ c.plan-plan.ensures.definitions)) c.requires.place

pub offset_bounds-all-place : goal.offset_bounds-all-place
offset_bounds-all-place c =
    let below : c.args.place < length c.definitions-all.result.now =
    subst (λ (ds : List Definition). c.args.place < length ds) (sym (c.definitions-all.ensures.definitions ∙ c.plan-plan.ensures.definitions)) c.requires.place in
    search rules

pub build-requires-clause-ground : goal.build-requires-clause-ground
build-requires-clause-ground c =
    let loaded = c.args.project.now in
    let d = c.index-all-place.result in
    let same = c.definitions-all.ensures.definitions ∙ c.plan-plan.ensures.definitions in
    let below = subst (λ (ds : List Definition). c.args.place < length ds) (sym same) c.requires.place in
    let at = stands_at c.definitions-all.result.now loaded.definitions c.args.place d same below c.index-all-place.is in
    let (names, size, among, parts_are) = c.in_ok-parts.ensures in
    rw (c.alphabet.ensures, c.deref.ensures.value) (ground loaded c.plan-plan.ensures.formed c.args.built.now c.requires.built c.args.place d at names size among c.in_ok-parts.parts.items parts_are c.requires.parts)

pub build-requires-clause-built : goal.build-requires-clause-built
build-requires-clause-built c =
    let loaded = c.args.project.now in
    let d = c.index-all-place.result in
    let same = c.definitions-all.ensures.definitions ∙ c.plan-plan.ensures.definitions in
    let below = subst (λ (ds : List Definition). c.args.place < length ds) (sym same) c.requires.place in
    let at = stands_at c.definitions-all.result.now loaded.definitions c.args.place d same below c.index-all-place.is in
    let (names, size, among, parts_are) = c.in_ok-parts.ensures in
    rw (c.alphabet.ensures, c.deref.ensures.value) (built_over loaded c.plan-plan.ensures.formed c.args.built.now c.requires.built c.args.place d at names size among c.in_ok-parts.parts.items parts_are c.requires.parts)

pub build-requires-clause-fits : goal.build-requires-clause-fits
build-requires-clause-fits c =
    let loaded = c.args.project.now in
    let d = c.index-all-place.result in
    let same = c.definitions-all.ensures.definitions ∙ c.plan-plan.ensures.definitions in
    let below = subst (λ (ds : List Definition). c.args.place < length ds) (sym same) c.requires.place in
    let at = stands_at c.definitions-all.result.now loaded.definitions c.args.place d same below c.index-all-place.is in
    let (names, size, among, parts_are) = c.in_ok-parts.ensures in
    rw c.deref.ensures.value (fits loaded c.plan-plan.ensures.formed c.args.built.now c.requires.built c.args.place d at names size among c.in_ok-parts.parts.items parts_are c.requires.parts)

pub build-requires-clause-formed : goal.build-requires-clause-formed
build-requires-clause-formed c =
    let loaded = c.args.project.now in
    let d = c.index-all-place.result in
    let same = c.definitions-all.ensures.definitions ∙ c.plan-plan.ensures.definitions in
    let below = subst (λ (ds : List Definition). c.args.place < length ds) (sym same) c.requires.place in
    let at = stands_at c.definitions-all.result.now loaded.definitions c.args.place d same below c.index-all-place.is in
    let (names, size, among, parts_are) = c.in_ok-parts.ensures in
    formed loaded c.plan-plan.ensures.formed c.args.built.now c.requires.built c.args.place d at names size among c.in_ok-parts.parts.items parts_are c.requires.parts

pub returns-clause-network : goal.returns-clause-network
returns-clause-network c =
    let loaded = c.args.project.now in
    let d = c.index-all-place.result in
    let same = c.definitions-all.ensures.definitions ∙ c.plan-plan.ensures.definitions in
    let below = subst (λ (ds : List Definition). c.args.place < length ds) (sym same) c.requires.place in
    let at = stands_at c.definitions-all.result.now loaded.definitions c.args.place d same below c.index-all-place.is in
    let (names, size, among, parts_are) = c.in_ok-parts.ensures in
    built_as loaded c.plan-plan.ensures.formed c.args.built.now c.requires.built c.args.place d at names size among c.in_ok-parts.parts.items parts_are c.requires.parts c.build.result (rw (c.alphabet.ensures, c.deref.ensures.value) at c.build.ensures.network)

pub returns-clause-filled : goal.returns-clause-filled
returns-clause-filled c =
    let loaded = c.args.project.now in
    let d = c.index-all-place.result in
    let same = c.definitions-all.ensures.definitions ∙ c.plan-plan.ensures.definitions in
    let below = subst (λ (ds : List Definition). c.args.place < length ds) (sym same) c.requires.place in
    let at = stands_at c.definitions-all.result.now loaded.definitions c.args.place d same below c.index-all-place.is in
    let (names, size, among, parts_are) = c.in_ok-parts.ensures in
    filled_as loaded c.plan-plan.ensures.formed c.args.built.now c.requires.built c.args.place d at names size among c.in_ok-parts.parts.items parts_are c.requires.parts c.build.result (rw (c.alphabet.ensures, c.deref.ensures.value) at c.build.ensures.filled)

pub returns-clause-error : goal.returns-clause-error
returns-clause-error c =
    let loaded = c.args.project.now in
    let d = c.index-all-place.result in
    let same = c.definitions-all.ensures.definitions ∙ c.plan-plan.ensures.definitions in
    let below = subst (λ (ds : List Definition). c.args.place < length ds) (sym same) c.requires.place in
    let at = stands_at c.definitions-all.result.now loaded.definitions c.args.place d same below c.index-all-place.is in
    let (names, size, among, parts_are) = c.in_ok-parts.ensures in
    why_as loaded c.plan-plan.ensures.formed c.args.built.now c.requires.built c.args.place d at names size among c.in_ok-parts.parts.items parts_are c.requires.parts c.build.result (rw (c.alphabet.ensures, c.deref.ensures.value) at c.build.ensures.error)
