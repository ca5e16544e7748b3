-- The names with an empty centre, by recursion.
use Rattle.std.proofs.Common.{ℕ, zero, suc, List, length}
use Rattle.project_meaning.specs.Projects.{Project, Defines, Reaches, at_once, further, HasNoCycle, IsClosed}
use Rattle.project_meaning.specs.Centres.{HasEmptyCentre, HasOwnEmptyCentre}
use Rattle.network_centres.specs.EmptyCentres.{EmptyCentresUnfold, RecursionTellsEmptyCentres}
use Rattle.project_meaning.proofs.Depths.{Ends, ends_in_time}

module _ (project : Project) where
  reaches_further : (a b c : List ℕ) → Reaches project a b → Reaches project b c → Reaches project a c
  reaches_further a b c (at_once r) s = further r s
  reaches_further a b c (further {next = n} r more) s = further r (reaches_further n b c more s)

  -- references end after every greater number of steps, too, and earlier from what the name reaches
  ends_later : (n : ℕ) (name : List ℕ) → Ends project n name → Ends project (suc n) name
  ends_later zero name ends = absurd ends
  ends_later (suc n) name ends = λ other r. ends_later n other (ends other r)

  ends_before : (n : ℕ) (name other : List ℕ) → Ends project (suc n) name → Reaches project name other → Ends project n other
  ends_before n name other ends (at_once r) = ends other r
  ends_before zero name other ends (further {next = next} r more) = absurd (ends next r)
  ends_before (suc n) name other ends (further {next = next} r more) = ends_later n other (ends_before n next other (ends next r) more)

  -- where neither a name nor what it reaches has an empty centre, it has no own one
  none_own : (n : ℕ) (name : List ℕ) → Ends project n name → (HasEmptyCentre project name → ⊥) → ((other : List ℕ) → Reaches project name other → HasEmptyCentre project other → ⊥) → HasOwnEmptyCentre project name → ⊥
  none_own zero name ends none beyond own = ends
  none_own (suc n) name ends none beyond own =
      none (own, λ other r. none_own n other (ends_before n name other ends r) (beyond other r) (λ next s. beyond next (reaches_further name other next r s)))

  defined : (name : List ℕ) → HasOwnEmptyCentre project name → Defines project name
  defined name own = (own.0, own.1, own.2)

  none_beyond : HasNoCycle project → IsClosed project → (name : List ℕ) → ((other : List ℕ) → Reaches project name other → HasEmptyCentre project other → ⊥) → (other : List ℕ) → Reaches project name other → HasOwnEmptyCentre project other → ⊥
  none_beyond acyclic closed name none other r own =
      none_own (length project.definitions) other (ends_in_time project acyclic closed other (defined other own)) (none other r) (λ next s. none next (reaches_further name other next r s)) own

pub empty_centres_unfold : EmptyCentresUnfold
empty_centres_unfold project acyclic closed name = (
  λ h. (h.0, λ other r there. h.1 other r there.0),
  λ h. (h.0, none_beyond project acyclic closed name h.1),
)

pub recursion_tells : RecursionTellsEmptyCentres
recursion_tells project told recursion name = (
  λ h. let r = (recursion name).0 h in (r.0, λ other s own. r.1 other s ((recursion other).1 (own, λ next t. r.1 next (reaches_further project name other next s t)))),
  λ h. (recursion name).1 (h.0, λ other r there. h.1 other r ((recursion other).0 there).0),
)
