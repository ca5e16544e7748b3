-- Loops over definitions: a list that is made of another, and the first definition with a fault.
use Rattle.std.proofs.Common.{◌≡◌, ◌↔◌, ◌+◌, ◌<◌, ◌≤◌, ℕ, Bool, IsTrue, List, [], ◌∷◌, ◌++◌, length, map, take, drop, get_or, refl, sym, ap, subst, ◌∙◌, inl, inr, All, arith}
use Rattle.std.proofs.lemmas.List.{take_more, map-append, take-append-drop}
use Rattle.std.proofs.lemmas.List.Elements.{All-append, All-cons, All-nil, All-head, All-tail}
use Rattle.word_relations.proofs.Behind.{left_behind}
use Rattle.expr_kinds.specs.Atoms.{leaves_at, weights_at}
use Rattle.expr_kinds.specs.Forms.{capped}
use Rattle.expr_kinds.specs.Weights.{most_weight}
use Rattle.expr_kinds.specs.declared.form.Form.{Form}
use Rattle.grammar_weights.specs.Weights.{is_same_symbol}
use Rattle.regex_ast.specs.declared.expr.Atom.{Atom}
use Rattle.project_meaning.specs.Trees.{Body}
use Rattle.project_definitions.specs.Bodies.{BodyFitsBy, weight_of_body}
use Rattle.regex_ast.specs.declared.fault.Fault.{Fault}
use Rattle.project_manifest.specs.Rows.{Where}
use Rattle.project_sources.specs.Faults.{fault}
use Rattle.project_manifest.proofs.Firsts.{first_past}
use Rattle.project_definitions.specs.Demands.{DemandFault, DoesMeet, FormMeets, Meets, why_not}
use Rattle.project_definitions.specs.declared.definition.Definition.{Definition}
use Rattle.project_definitions.specs.declared.demands.Demand.{Demand}
use Rattle.project_definitions.specs.declared.demands.Demand.TheVariants as demand
use Rattle.project_sources.specs.declared.plan_error.PlanError.{PlanError}
use Rattle.project_sources.specs.declared.plan_error.PlanError.TheVariants.{Refused, Memory}
use Rattle.project_sources.specs.Refusals.{IsRefusal, IsRefusedBy}

-- a refusal for such a fault
pub refused_by : (IsFault : Fault → Type 0) (found : Fault) (error : PlanError) → IsFault found → IsRefusal found error → IsRefusedBy IsFault error
refused_by IsFault found (Refused other) it is = subst IsFault (sym is) it
refused_by IsFault found (Memory refused) it is = tt

-- a loop over items of which a list is made: what was made, and one more
module _ {X Y : Type 0} (f : X → Y) (xs : List X) (i : ℕ) (x : X) (below : i < length xs) (is : x ≡ get_or xs i x) where
  front_more : take (i + 1) xs ≡ take i xs ++ x ∷ []
  front_more = take_more xs i x below ∙ ap (λ (e : X). take i xs ++ e ∷ []) (sym is)

  pub made_more : map f (take (i + 1) xs) ≡ map f (take i xs) ++ f x ∷ []
  made_more = ap (map f) front_more ∙ map-append f (take i xs) (x ∷ [])

-- all so far have the property, and the next one has it
pub all_more : {X : Type 0} (P : X → Type 0) (xs : List X) (i : ℕ) (x : X) → i < length xs → x ≡ get_or xs i x → All P (take i xs) → P x → All P (take (i + 1) xs)
all_more {X} P xs i x below is so_far here =
    subst (All P) (sym (take_more xs i x below ∙ ap (λ (e : X). take i xs ++ e ∷ []) (sym is))) (All-append P (take i xs) (x ∷ []) so_far (All-cons P x [] here (All-nil P)))

abbrev Fault_by : List Form → Demand → Definition → Fault → Type 0
Fault_by forms asked d found = Where (DoesMeet forms asked d → ⊥) (fault d.file d.line (why_not asked)) found

-- definitions that all meet what is asked have no fault by it
pub all_pass : (forms : List Form) (asked : Demand) (xs : List Definition) → All (DoesMeet forms asked) xs → (found : Fault) → DemandFault xs forms asked found → ⊥
all_pass forms asked [] all found h = h
all_pass forms asked (x ∷ xs) all found h =
    elim h as (λ _. ⊥) [
      | inl (fails, is) ↦ fails (All-head (DoesMeet forms asked) x xs all)
      | inr later ↦ all_pass forms asked xs (All-tail (DoesMeet forms asked) x xs all) found later.1
    ]

-- the first definition that fails
pub first_fails : (forms : List Form) (asked : Demand) (xs : List Definition) (i : ℕ) (x : Definition) → i < length xs → x ≡ get_or xs i x
    → All (DoesMeet forms asked) (take i xs) → (DoesMeet forms asked x → ⊥) → DemandFault xs forms asked (fault x.file x.line (why_not asked))
first_fails forms asked xs i x below is before fails =
    let behind = first_past (Fault_by forms asked) (take i xs) (x ∷ drop (i + 1) xs) (fault x.file x.line (why_not asked)) (all_pass forms asked (take i xs) before) (inl (fails, refl)) in
    let split : xs ≡ take i xs ++ x ∷ drop (i + 1) xs = sym (take-append-drop i xs) ∙ ap (λ (z : List Definition). take i xs ++ z) (left_behind xs i x below is) in
    subst (λ (z : List Definition). DemandFault z forms asked (fault x.file x.line (why_not asked))) (sym split) behind

-- a definition meets what is asked where its form does
light_as : (weight n : ℕ) → weight ≡ capped n → (weight ≤ most_weight) ↔ (n ≤ most_weight)
unfolding capped most_weight
light_as weight n is = (λ h. omega (arith, is, h), λ h. omega (arith, is, h))

through : {P Q R : Type 0} → P ↔ Q → Q ↔ R → P ↔ R
through first second = (λ p. second.0 (first.0 p), λ r. first.1 (second.1 r))

pub meets_as : (forms : List Form) (body : Body Atom) (asked : Demand) (form : Form) (does : Bool) → IsTrue form.fits ↔ BodyFitsBy (leaves_at forms) body → form.weight ≡ capped (weight_of_body (weights_at forms) is_same_symbol body)
    → IsTrue does ↔ FormMeets asked form → IsTrue does ↔ Meets forms asked body
meets_as forms body demand.Fits form does fits weight told = through told fits
meets_as forms body demand.Light form does fits weight told = through told (light_as form.weight (weight_of_body (weights_at forms) is_same_symbol body) weight)
