use Rattle.std.proofs.Common.{◌≡◌, ◌∙◌, Result, Ok, Err, IfErr, subst, sym}
use Rattle.std.specs.Result.{IsErrAnd}
use Rattle.project_store.specs.Projects.{IsOfSources, IsWhyNot}
use Rattle.project_store.proofs.Trying.{none_free, read_whole, why_not_loaded}
use Rattle.project_store.proofs.reading.project_of.Goals as goal

pub with_centres-requires : goal.with_centres-requires
with_centres-requires c =
    let same = c.definitions.ensures.definitions ∙ c.plan.ensures.definitions in
    none_free c.in_ok-project.project c.in_ok-none.none.items (rw same at c.in_ok-none.ensures.count) (rw same at c.in_ok-none.ensures.none)

pub returns-clause-project : goal.returns-clause-project
returns-clause-project c = subst (IsOfSources c.args.sources.now) (sym c.of.ensures) (read_whole c.args.sources.now c.in_ok-project.project c.in_ok-project.ensures.project c.in_ok-built.ensures.filled)

-- the error that another one becomes is so where that one is
fails_by : {T E : Type 0} (r : Result T E) (P : E → Type 0) (error : E) → IsErrAnd r (λ e. e ≡ error) → P error → IfErr r P
fails_by (Ok x) P error is h = tt
fails_by (Err e) P error is h = subst P (sym is) h

pub returns-in_err-built-clause-error : goal.returns-in_err-built-clause-error
returns-in_err-built-clause-error c =
    let why = why_not_loaded c.args.sources.now c.in_ok-project.project c.in_ok-project.ensures.project c.in_err-built.field-0.0 c.in_err-built.ensures.error in
    fails_by _ (IsWhyNot c.args.sources.now) _ c.from_residual-in_err-built.ensures.1 why
