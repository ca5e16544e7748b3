use Rattle.std.proofs.Common.{◌≡◌, ◌∙◌, ap, arith, sym, true≢false}
use Rattle.std.proofs.lemmas.Slice.Eq.{bytes_eq-Decides}
use Rattle.project_store.proofs.Named.{none_more, none_of_all, stands_at}
use Rattle.project_store.proofs.project.Project.find.Goals as goal

pub returns-then-eq : goal.returns-then-eq
returns-then-eq c =
    let same = c.definitions-all.ensures.definitions in
    let at = stands_at c.definitions-all.result.now c.self.inside.plan.definitions c.definitions.place c.index-all-place.result same (omega arith) c.index-all-place.is in
    let named = sym c.as_str.ensures ∙ (bytes_eq-Decides c.as_str.result.now c.args.name.now).0 (sym c.eq.ensures ∙ c.if-eq.true) in
    rw (← c.self.view_is) (c.index-all-place.result, at, named)

pub definitions-preserved : goal.definitions-preserved
definitions-preserved c =
    none_more (λ d. d.name ≡ c.args.name.now → ⊥) c.definitions-all.result.now c.definitions.place c.index-all-place.result (omega arith) c.index-all-place.is c.definitions.invariant
    (λ named. true≢false (sym ((bytes_eq-Decides c.as_str.result.now c.args.name.now).1 (c.as_str.ensures ∙ named)) ∙ sym c.eq.ensures ∙ c.if-eq.false))

pub returns : goal.returns
returns c =
    none_of_all c.args.name.now c.definitions-all.result.now c.args.self.now.definitions c.definitions.place (c.definitions-all.ensures.definitions ∙ ap (λ v. v.definitions) c.self.view_is) (omega arith) c.definitions.invariant
