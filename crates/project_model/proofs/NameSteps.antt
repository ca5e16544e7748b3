-- A loop over definitions that gathers their names: a definition more, and where it ends with a fault.
use Rattle.std.proofs.Common.{◌≡◌, ℕ, ◌+◌, ◌<◌, ◌≤◌, Bool, true, false, not, List, [], ◌∷◌, ◌++◌, map, take, drop, length, get_or, refl, sym, ap, subst, ◌∙◌, inl, inr, arith, length-append}
use Rattle.std.proofs.lemmas.List.{take_more, map-append, take-append-drop, length-map, length-take}
use Rattle.std.specs.List.{Contains, list_any}
use Rattle.std.specs.Str.{bytes_eq}
use Rattle.word_relations.proofs.Behind.{left_behind}
use Rattle.regex_ast.specs.declared.fault.Fault.{Fault}
use Rattle.regex_ast.specs.declared.fault.Why.TheVariants as why
use Rattle.project_meaning.specs.Projects.{Written, names_of}
use Rattle.project_sources.specs.Limits.{most_names}
use Rattle.project_manifest.specs.Rows.{At, First, HaveNone, places, places_from}
use Rattle.project_sources.specs.Faults.{fault, NameFault, name_rows, NamesFault}
use Rattle.project_manifest.proofs.Firsts.{first_past, none_append, none_more, places_append}
use Rattle.project_model.specs.Answers.{IsRefusal, IsRefusedBy, written_of}
use Rattle.project_sources.specs.declared.plan_error.PlanError.{PlanError}
use Rattle.project_model.specs.declared.written.WrittenDefine.{WrittenDefine}
use Rattle.name_resolution.proofs.Texts.{has_from_any, not_had}
use Rattle.project_definitions.proofs.Steps.{refused_by}

pub not_false : (b : Bool) → false ≡ not b → b ≡ true
not_false true e = refl
not_false false e = cc

pub not_true : (b : Bool) → true ≡ not b → b ≡ false
not_true true e = cc
not_true false e = refl

-- what a definition has by its name, behind others
abbrev pub Has : At Written → Fault → Type 0
Has place found = First (NameFault place) name_rows found

pub none_at_start : HaveNone Has (places [])
none_at_start found h = h

module _ (xs : List WrittenDefine) (i : ℕ) (d : WrittenDefine) (below : i < length xs) (is : d ≡ get_or xs i d) where
  abbrev pub front : List Written
  front = map written_of (take i xs)

  abbrev rest : List Written
  rest = map written_of (drop (i + 1) xs)

  abbrev here : Written
  here = written_of d

  abbrev place : At Written
  place = record { before = front; item = here }

  abbrev step : List WrittenDefine → List Written
  step ys = map written_of ys

  step_append : (ys zs : List WrittenDefine) → step (ys ++ zs) ≡ step ys ++ step zs
  step_append ys zs = map-append written_of ys zs

  whole : step xs ≡ front ++ here ∷ rest
  whole = ap step (sym (take-append-drop i xs)) ∙ step_append (take i xs) (drop i xs) ∙ ap (λ (z : List WrittenDefine). front ++ step z) (left_behind xs i d below is)

  one_more : step (take (i + 1) xs) ≡ front ++ here ∷ []
  one_more = ap step (take_more xs i d below ∙ ap (λ (e : WrittenDefine). take i xs ++ e ∷ []) (sym is)) ∙ step_append (take i xs) (d ∷ [])

  pub names_more : names_of (step (take (i + 1) xs)) ≡ names_of front ++ d.name ∷ []
  names_more = ap names_of one_more ∙ map-append (λ (w : Written). w.name) front (here ∷ [])

  length_front : length front ≡ i
  length_front = omega (arith, length-map (take i xs) written_of, length-take i xs)

  -- the fault of this definition is the first where there is none before
  fault_here : HaveNone Has (places front) → (found : Fault) → Has place found → NamesFault (step xs) found
  fault_here none found h =
      let behind : First Has (places_from [] front ++ places_from front (here ∷ rest)) found = first_past Has (places front) (places_from front (here ∷ rest)) found none (inl h) in
      let all : First Has (places (front ++ here ∷ rest)) found = subst (λ z. First Has z found) (sym (places_append [] front (here ∷ rest))) behind in
      subst (λ (z : List Written). NamesFault z found) (sym whole) all

  module _ (had : List (List ℕ)) (had_is : had ≡ names_of front) (none : HaveNone Has (places front)) where
    -- an earlier one has the name
    pub why_again : (error : PlanError) → list_any (bytes_eq d.name) had ≡ true → IsRefusal (fault d.file d.line why.Duplicate) error → IsRefusedBy (NamesFault (step xs)) error
    why_again error any refusal =
        let among : Contains (names_of front) d.name = subst (λ (z : List (List ℕ)). Contains z d.name) had_is (has_from_any d.name had any) in
        refused_by (NamesFault (step xs)) (fault d.file d.line why.Duplicate) error (fault_here none (fault d.file d.line why.Duplicate) (inl (among, refl))) refusal

    new : list_any (bytes_eq d.name) had ≡ false → ¬ (Contains (names_of front) d.name)
    new fails = subst (λ (z : List (List ℕ)). ¬ (Contains z d.name)) had_is (not_had d.name had fails)

    -- it comes behind as many as there may be
    pub why_too_many : (error : PlanError) → list_any (bytes_eq d.name) had ≡ false → 512 < length (had ++ d.name ∷ []) → IsRefusal (fault d.file d.line why.LimitNames) error
        → IsRefusedBy (NamesFault (step xs)) error
    unfolding most_names
    why_too_many error fails many refusal =
        let full : most_names ≤ length front = omega (arith, many, length-append had (d.name ∷ []), ap length had_is, length-map front (λ (w : Written). w.name)) in
        refused_by (NamesFault (step xs)) (fault d.file d.line why.LimitNames) error
        (fault_here none (fault d.file d.line why.LimitNames) (inr ((λ other again. new fails again.0), inl (full, refl)))) refusal

    pub still_none : list_any (bytes_eq d.name) had ≡ false → length (had ++ d.name ∷ []) ≤ 512 → HaveNone Has (places (step (take (i + 1) xs)))
    unfolding most_names
    still_none fails few =
        let free : (found : Fault) → Has place found → ⊥ = λ found h. elim h as (λ _. ⊥) [
          | inl again ↦ new fails again.0
          | inr more ↦ elim more.1 as (λ _. ⊥) [
            | inl full ↦ let many = full.0 in omega (arith, many, few, length-append had (d.name ∷ []), ap length had_is, length-map front (λ (w : Written). w.name))
            | inr never ↦ never.1
          ]
        ] in
        let all = none_append Has (places front) (places_from front (here ∷ [])) none (none_more Has place [] free (λ found h. h)) in
        subst (λ (z : List Written). HaveNone Has (places z)) (sym one_more) (subst (HaveNone Has) (sym (places_append [] front (here ∷ []))) all)
