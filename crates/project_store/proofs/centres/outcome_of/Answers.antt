use Rattle.project_store.specs.Building.{IsBuiltAt, expression_leaves}
use Rattle.project_definitions.specs.Plain.{body_of}
use Rattle.project_store.specs.Centres.{HasNoNetwork}
use Rattle.std.proofs.Common.{All, Contains, ◌<◌, ◌∙◌, List, arith, length, rules, subst, sym}
use Rattle.regex_ast.specs.declared.expr.Atom.{Atom}
use Rattle.project_definitions.specs.declared.definition.Definition.{Definition}
use Rattle.project_store.proofs.Trying.{behind_one, is_empty, is_free, none_behind}
use Rattle.project_store.proofs.Named.{stands_at}
use Rattle.project_store.proofs.centres.outcome_of.Goals as goal

pub bounds-all-place : goal.bounds-all-place
bounds-all-place c = subst (λ (ds : List Definition). c.args.place < length ds) (sym (c.definitions-all.ensures.definitions ∙ c.plan-plan.ensures.definitions)) c.requires.place

pub offset_bounds-all-place : goal.offset_bounds-all-place
offset_bounds-all-place c =
    let below : c.args.place < length c.definitions-all.result.now =
    subst (λ (ds : List Definition). c.args.place < length ds) (sym (c.definitions-all.ensures.definitions ∙ c.plan-plan.ensures.definitions)) c.requires.place in
    search rules

pub has_network-requires : goal.has_network-requires
has_network-requires c = let many = c.requires.free.are.count in omega (arith, c.requires.place, many)

pub returns-then-has_network : goal.returns-then-has_network
returns-then-has_network c = rw c.if-has_network.true at c.has_network.ensures.yes

pub returns-then-branch : goal.returns-then-branch
returns-then-branch c =
    let loaded = c.args.project.now in
    let d = c.index-all-place.result in
    let same = c.definitions-all.ensures.definitions ∙ c.plan-plan.ensures.definitions in
    let below = subst (λ (ds : List Definition). c.args.place < length ds) (sym same) c.requires.place in
    let at = stands_at c.definitions-all.result.now loaded.definitions c.args.place d same below c.index-all-place.is in
    let (leaf, stood, none) =
    subst (λ (x : Definition). (leaf : Atom) × Contains (expression_leaves (body_of x.body)) leaf × HasNoNetwork c.args.built.now leaf) (sym c.index-all-place.is) (rw c.if-branch.true at c.in_ok-lacks_part.ensures.yes) in
    behind_one loaded c.args.built.now c.requires.free.are c.args.place d at leaf stood none

pub built_of-requires-clause-parts : goal.built_of-requires-clause-parts
built_of-requires-clause-parts c =
    let loaded = c.args.project.now in
    let d = c.index-all-place.result in
    let same = c.definitions-all.ensures.definitions ∙ c.plan-plan.ensures.definitions in
    let below = subst (λ (ds : List Definition). c.args.place < length ds) (sym same) c.requires.place in
    let at = stands_at c.definitions-all.result.now loaded.definitions c.args.place d same below c.index-all-place.is in
    none_behind loaded c.args.built.now c.requires.free.are c.args.place d at (subst (λ (x : Definition). All (λ leaf. HasNoNetwork c.args.built.now leaf → ⊥) (expression_leaves (body_of x.body))) (sym c.index-all-place.is) (rw c.if-branch.false at c.in_ok-lacks_part.ensures.no))

pub returns-in_ok-shared-in-Ok : goal.returns-in_ok-shared-in-Ok
returns-in_ok-shared-in-Ok c =
    let loaded = c.args.project.now in
    let d = c.index-all-place.result in
    let same = c.definitions-all.ensures.definitions ∙ c.plan-plan.ensures.definitions in
    let below = subst (λ (ds : List Definition). c.args.place < length ds) (sym same) c.requires.place in
    let at = stands_at c.definitions-all.result.now loaded.definitions c.args.place d same below c.index-all-place.is in
    let parts = none_behind loaded c.args.built.now c.requires.free.are c.args.place d at (subst (λ (x : Definition). All (λ leaf. HasNoNetwork c.args.built.now leaf → ⊥) (expression_leaves (body_of x.body))) (sym c.index-all-place.is) (rw c.if-branch.false at c.in_ok-lacks_part.ensures.no)) in
    let lacking = rw c.if-has_network.false at c.has_network.ensures.no in
    (subst (IsBuiltAt loaded c.args.place) (sym c.in_ok-shared-in-Ok.ensures) c.in-Ok.ensures.network, is_free loaded c.args.built.now c.requires.free c.args.place parts c.in-Ok.ensures.filled, lacking)

pub returns-in-Err-EmptyCentre : goal.returns-in-Err-EmptyCentre
returns-in-Err-EmptyCentre c =
    let loaded = c.args.project.now in
    let d = c.index-all-place.result in
    let same = c.definitions-all.ensures.definitions ∙ c.plan-plan.ensures.definitions in
    let below = subst (λ (ds : List Definition). c.args.place < length ds) (sym same) c.requires.place in
    let at = stands_at c.definitions-all.result.now loaded.definitions c.args.place d same below c.index-all-place.is in
    let parts = none_behind loaded c.args.built.now c.requires.free.are c.args.place d at (subst (λ (x : Definition). All (λ leaf. HasNoNetwork c.args.built.now leaf → ⊥) (expression_leaves (body_of x.body))) (sym c.index-all-place.is) (rw c.if-branch.false at c.in_ok-lacks_part.ensures.no)) in
    let why = rw c.in-Err-EmptyCentre.field-0-is at c.in-Err-EmptyCentre.ensures.error in
    is_empty loaded c.args.built.now c.requires.free c.args.place parts why.0
