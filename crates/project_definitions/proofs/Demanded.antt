-- What is asked of the definitions of a plan, and the rows that tell the same of what was said.
use Rattle.std.proofs.Common.{◌≡◌, ◌↔◌, ◌<◌, ◌≤◌, ℕ, List, [], ◌∷◌, length, All, Contains, refl, sym, ap, subst, ◌∙◌, inl, inr, arith}
use Rattle.std.proofs.lemmas.Bool.{cases_lt}
use Rattle.std.specs.List.{flat_map}
use Rattle.word_relations.proofs.Members.{Contains-nil_cases, Contains-cons_cases, Contains-map}
use Rattle.regex_ast.specs.declared.expr.Atom.{Atom}
use Rattle.regex_ast.specs.declared.expr.Raw.{Raw}
use Rattle.regex_ast.specs.declared.fault.Fault.{Fault}
use Rattle.expr_kinds.specs.Atoms.{weights_at}
use Rattle.expr_kinds.specs.Forms.{capped}
use Rattle.expr_kinds.specs.Weights.{most_weight}
use Rattle.expr_kinds.specs.declared.form.Form.{Form as Told}
use Rattle.grammar_weights.specs.Weights.{is_same_symbol}
use Rattle.project_meaning.specs.Trees.{Body}
use Rattle.project_meaning.specs.Forms.{body_weight, weight_in}
use Rattle.project_meaning.specs.Leaves.{names_in, resolved, symbols_in}
use Rattle.project_meaning.specs.Projects.{Definition as Meant, Written, Project, definition_in, names_of}
use Rattle.project_manifest.specs.Rows.{First, Where}
use Rattle.project_sources.specs.Sources.{Said, project_in, resolved_in}
use Rattle.project_sources.specs.Faults.{fault, fault_of, DoesNotFit, IsHeavy, SaidRow, no_language, heavy, SaidFault}
use Rattle.project_manifest.proofs.Firsts.{first_alike}
use Rattle.project_definitions.specs.Demands.{DemandFault, DoesMeet, Meets, demands, why_not}
use Rattle.project_definitions.specs.Forms.{AreDefined, AreForms}
use Rattle.name_resolution.specs.Numbered.{numbered}
use Rattle.project_definitions.specs.Bodies.{mapped_body, weight_of_body}
use Rattle.project_definitions.specs.Plain.{body_of}
use Rattle.project_definitions.specs.Entries.{Entry as Said_entry, entry_of, entry_in}
use Rattle.project_definitions.specs.declared.definition.Body.{Body as BodyOf}
use Rattle.project_definitions.specs.declared.definition.Definition.{Definition}
use Rattle.project_definitions.specs.declared.demands.Demand.{Demand}
use Rattle.project_definitions.specs.declared.demands.Demand.TheVariants as demand
use Rattle.project_definitions.proofs.Built.{All-front, All-back}
use Rattle.project_definitions.proofs.Referring.{count, referred_among}
use Rattle.project_definitions.proofs.Told.{IsTold, told_fits, told_weight}

-- weights are above the most alike, where they are alike as far as they are told apart
above : (n m : ℕ) → capped n ≡ capped m → (n ≤ most_weight → ⊥) → most_weight < m
unfolding capped
above n m same fails =
    elim (cases_lt most_weight m) as (λ _. most_weight < m) [
      | inl less ↦ less
      | inr most ↦ absurd (fails (omega (arith, same, most)))
    ]

not_above : (n m : ℕ) → capped n ≡ capped m → most_weight < m → n ≤ most_weight → ⊥
unfolding capped
not_above n m same many few = omega (arith, same, many, few)

module _ (names table : List (List ℕ)) where
  -- a body that is this one, its leaves numbered
  abbrev IsNumbered : Body Raw → BodyOf Atom → Type 0
  IsNumbered body b = body_of b ≡ mapped_body (numbered names table) (resolved names body)

-- what holds of all that definitions list holds of what each lists
pub held_each : {X Y : Type 0} (P : Y → Type 0) (of : X → List Y) (xs : List X) → All P (flat_map of xs) → (x : X) → Contains xs x → All P (of x)
held_each P of [] held x among = absurd (Contains-nil_cases x among)
held_each P of (y ∷ xs) held x among =
    elim (Contains-cons_cases y xs x among) as (λ _. All P (of x)) [
      | inl same ↦ subst (λ z. All P (of z)) same (All-front P (of y) (flat_map of xs) held)
      | inr more ↦ held_each P of xs (All-back P (of y) (flat_map of xs) held) x more
    ]

module _ (said : Said) (table : List (List ℕ)) (definitions : List Definition) (are : AreDefined said table definitions) (forms : List Told) (few : length forms ≡ length definitions)
    (forms_are : AreForms (names_of said.written) (project_in said) forms) where
  abbrev names : List (List ℕ)
  names = names_of said.written

  abbrev project : Project
  project = project_in said

  many : length forms ≡ length names
  many = few ∙ count said table definitions are

  held_of : (w : Written) → Contains said.written w → All (Contains table) (symbols_in (resolved names w.body))
  held_of w among =
      held_each (Contains table) (λ (d : Meant). symbols_in d.body) project.definitions are.symbols (definition_in names w) (Contains-map (definition_in names) said.written w among)

  told_of : (w : Written) → Contains said.written w → (name : List ℕ) → Contains (names_in (resolved names w.body)) name → IsTold names project forms name
  told_of w among name h =
      let there = referred_among said table definitions are w.name name (definition_in names w, Contains-map (definition_in names) said.written w among, refl, h) in
      record { among = there; kind = forms_are.kinds name there; weight = forms_are.weights name there }

  -- whether a definition meets each demand, by what was said
  fails_fits : (w : Written) (b : BodyOf Atom) → Contains said.written w → IsNumbered names table w.body b → (Meets forms demand.Fits (body_of b) → ⊥) ↔ DoesNotFit project (resolved_in said w)
  fails_fits w b among is =
      let both = told_fits names table project forms many b (resolved names w.body) is (held_of w among) (told_of w among) in
      (λ fails all. fails (both.1 all), λ fails fits. fails (both.0 fits))

  fails_light : (w : Written) (b : BodyOf Atom) → Contains said.written w → IsNumbered names table w.body b → (Meets forms demand.Light (body_of b) → ⊥) ↔ IsHeavy project (resolved_in said w)
  fails_light w b among is =
      let same = told_weight names table project forms many b w.body is (held_of w among) (told_of w among) in
      let n = weight_of_body (weights_at forms) is_same_symbol (body_of b) in
      let m = body_weight (weight_in project) (resolved names w.body) in
      (above n m same, not_above n m same)

  -- one demand, and the row that tells it
  by_row : (asked : Demand) (P : Meant → Type 0)
      → ((w : Written) (b : BodyOf Atom) → Contains said.written w → IsNumbered names table w.body b → (Meets forms asked (body_of b) → ⊥) ↔ P (resolved_in said w))
      → (found : Fault) → DemandFault definitions forms asked found ↔ First (λ w. Where (P (resolved_in said w)) (fault_of w (why_not asked))) said.written found
  by_row asked P each =
      first_alike (λ d. Where (DoesMeet forms asked d → ⊥) (fault d.file d.line (why_not asked))) (λ w. Where (P (resolved_in said w)) (fault_of w (why_not asked))) entry_of (entry_in names table) definitions said.written are.entries
      (λ d w among same found.
      let both = each w d.body among (ap (λ (e : Said_entry). e.body) same) in
      let line = ap (λ (e : Said_entry). e.line) same in
      let file = ap (λ (e : Said_entry). e.file) same in
      let faults : fault d.file d.line (why_not asked) ≡ fault_of w (why_not asked) = λ i. fault (file i) (line i) (why_not asked) in
      (λ (fails, is). (both.0 fails, is ∙ faults), λ (fails, is). (both.1 fails, is ∙ sym faults)))

  abbrev row_of : Demand → SaidRow
  row_of demand.Fits = no_language
  row_of demand.Light = heavy

  by_demand : (asked : Demand) (found : Fault) → DemandFault definitions forms asked found ↔ SaidFault said (row_of asked) found
  by_demand demand.Fits = by_row demand.Fits (DoesNotFit project) fails_fits
  by_demand demand.Light = by_row demand.Light (IsHeavy project) fails_light

  -- the first fault of the definitions is that of what was said
  pub demand_fault : (found : Fault) → First (DemandFault definitions forms) demands found ↔ First (SaidFault said) (no_language ∷ heavy ∷ []) found
  demand_fault =
      first_alike (DemandFault definitions forms) (SaidFault said) row_of (λ row. row) demands (no_language ∷ heavy ∷ []) refl
      (λ asked row among same found. subst (λ (r : SaidRow). DemandFault definitions forms asked found ↔ SaidFault said r found) same (by_demand asked found))
