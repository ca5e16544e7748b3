-- What a look-up among steps finds.
use Rattle.std.proofs.Common.{◌≡◌, ℕ, true, List, Option, None, Some, MatchOption, refl, subst, rules, tests}
use Rattle.std.specs.List.{Contains, slice_get}
use Rattle.std.specs.Map.{lookup}
use Rattle.std.specs.Option.{IfSome, IsSome}
use Rattle.std.proofs.lemmas.Bool.{false≢true}
use Rattle.std.proofs.lemmas.Map.Views.{IfSome-lookup, IsSome-lookup_from_Contains}
use Rattle.word_relations.proofs.Members.{Contains-map}
use Rattle.word_relations.proofs.Places.{Contains-from_slice_get}
use Rattle.lexc_compile.specs.declared.steps.Step.{Step}
use Rattle.lexc_compile.specs.contracts.steps.StepPartialEq.TheImpl as step_eq
use Rattle.lexc_compile.specs.contracts.steps.StepEq.TheImpl.Laws as step_laws

-- steps that compare as equal are the same
same_step : (a b : Step) → (step_eq.eq-value).it a b ≡ true → a ≡ b
same_step a b = search (rules, tests)

-- a step that is noted at a place is there
pub step_noted : (rows : List (Step × ℕ)) (step noted : Step) (to place : ℕ) → slice_get rows place ≡ Some (noted, to) → (step_eq.eq-value).it noted step ≡ true → Contains rows (step, to)
step_noted rows step noted to place at same = subst (λ s. Contains rows (s, to)) (same_step noted step same) (Contains-from_slice_get rows place (noted, to) at)

found_by : (rows : List (Step × ℕ)) (step : Step) (found : Option ℕ) → lookup ((step_eq.eq-value).it step) rows ≡ found → MatchOption found ((to : ℕ) → Contains rows (step, to) → ⊥) (λ to. Contains rows (step, to))
found_by rows step None none = λ to held.
    let some : IsSome (lookup ((step_eq.eq-value).it step) rows) = IsSome-lookup_from_Contains step_laws.laws-law step rows (Contains-map (λ row. row.0) rows (step, to) held) in
    absurd (false≢true (subst IsSome none some))
found_by rows step (Some to) is =
    subst (λ found. IfSome found (λ k. Contains rows (step, k))) is (IfSome-lookup same_step step rows)

-- the state that a step leads to is found where there is one
pub step_found : (rows : List (Step × ℕ)) (step : Step) → MatchOption (lookup ((step_eq.eq-value).it step) rows) ((to : ℕ) → Contains rows (step, to) → ⊥) (λ to. Contains rows (step, to))
step_found rows step = found_by rows step (lookup ((step_eq.eq-value).it step) rows) refl

not_found : (rows : List (Step × ℕ)) (step : Step) → ((to : ℕ) → Contains rows (step, to) → ⊥) → (found : Option ℕ) → lookup ((step_eq.eq-value).it step) rows ≡ found → lookup ((step_eq.eq-value).it step) rows ≡ None
not_found rows step never None none = none
not_found rows step never (Some to) is = absurd (never to (subst (λ found. IfSome found (λ k. Contains rows (step, k))) is (IfSome-lookup same_step step rows)))

-- none is found where there is none
pub step_missing : (rows : List (Step × ℕ)) (step : Step) → ((to : ℕ) → Contains rows (step, to) → ⊥) → lookup ((step_eq.eq-value).it step) rows ≡ None
step_missing rows step never = not_found rows step never (lookup ((step_eq.eq-value).it step) rows) refl
