-- The part of a name, among parts.
use Rattle.std.proofs.Common.{◌≡◌, ◌==◌, ℕ, Bool, true, false, cond, List, [], ◌∷◌, Some, None, Contains, IsTrue, is_some, refl, sym, ap, subst, ◌∙◌, inl, inr, eq-eqb}
use Rattle.std.proofs.lemmas.Bool.{eqb-true}
use Rattle.std.proofs.lemmas.Option.{same_Some}
use Rattle.word_relations.proofs.Members.{Contains-nil_cases, Contains-cons_cases, Contains-head, Contains-tail}
use Rattle.network_expr.specs.Parts.{part_of}
use Rattle.network_expr.specs.declared.parts.Part.{Part}

-- what is found is one of them, with the name
pub part_found : (parts : List Part) (name : ℕ) (part : Part) → part_of parts name ≡ Some part → Contains parts part × (part.name ≡ name)
part_found [] name part e = let no : None ≡ Some part = e in absurd (cc)
part_found (p ∷ parts) name part e = by (p.name == name) refl (part_found parts name part)
  where
    by : (b : Bool) → (p.name == name) ≡ b → (part_of parts name ≡ Some part → Contains parts part × (part.name ≡ name)) → Contains (p ∷ parts) part × (part.name ≡ name)
    by true is later =
        let same : p ≡ part = same_Some p part (sym (ap (λ (b : Bool). cond b (Some p) (part_of parts name)) is) ∙ e) in
        (subst (Contains (p ∷ parts)) same (Contains-head p parts), ap (λ (x : Part). x.name) (sym same) ∙ eqb-true p.name name is)
    by false other later =
        let (there, is) = later (sym (ap (λ (b : Bool). cond b (Some p) (part_of parts name)) other) ∙ e) in
        (Contains-tail p parts part there, is)

-- where one of them has the name, one is found
pub part_there : (parts : List Part) (name : ℕ) (part : Part) → Contains parts part → part.name ≡ name → IsTrue (is_some (part_of parts name))
part_there [] name part among is = absurd (Contains-nil_cases part among)
part_there (p ∷ parts) name part among is = by (p.name == name) refl (part_there parts name part)
  where
    rest : (p.name == name) ≡ false → (Contains parts part → part.name ≡ name → IsTrue (is_some (part_of parts name))) → IsTrue (is_some (part_of parts name))
    rest other later = elim (Contains-cons_cases p parts part among) as (λ _. IsTrue (is_some (part_of parts name))) [
      | inl same ↦ (let clash : true ≡ false = sym (eq-eqb p.name name (ap (λ (x : Part). x.name) same ∙ is)) ∙ other in absurd (cc))
      | inr there ↦ later there is
    ]

    by : (b : Bool) → (p.name == name) ≡ b → (Contains parts part → part.name ≡ name → IsTrue (is_some (part_of parts name))) → IsTrue (is_some (part_of (p ∷ parts) name))
    by true here later = ap (λ (b : Bool). is_some (cond b (Some p) (part_of parts name))) here
    by false other later = ap (λ (b : Bool). is_some (cond b (Some p) (part_of parts name))) other ∙ rest other later
