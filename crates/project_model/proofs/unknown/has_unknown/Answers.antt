use Rattle.std.proofs.Common.{List, ℕ, refl, sym, subst, ◌∙◌, false, true, ◌≡◌, arith}
use Rattle.std.specs.List.{Contains}
use Rattle.std.proofs.lemmas.List.{take_all}
use Rattle.project_manifest.proofs.Looking.{among, not_so_far}
use Rattle.name_resolution.proofs.Texts.{has_from_any, not_had}
use Rattle.project_model.proofs.unknown.has_unknown.Goals as goal

pub returns-then-not-contains : goal.returns-then-not-contains
returns-then-not-contains c =
    let name = c.name-item.result in
    let none = sym (rw c.as_str.ensures at c.contains.ensures) ∙ c.if-not-contains.true in
    (λ _. (name, among c.args.required.now c.required.name-index name (omega arith) c.name-item.is, not_had name c.args.names.now none), λ _. refl)

pub required-preserved : goal.required-preserved
required-preserved c other so_far unknown =
    let name = c.name-item.result in
    let any = sym (rw c.as_str.ensures at c.contains.ensures) ∙ c.if-not-contains.false in
    not_so_far c.args.required.now c.required.name-index name (omega arith) c.name-item.is other (λ before. c.required.invariant other before unknown)
    (λ same. unknown (subst (Contains c.args.names.now) same (has_from_any name c.args.names.now any))) so_far

pub returns : goal.returns
returns c = (
  λ is. let clash : false ≡ true = is in cc,
  λ (name, required, unknown).
      absurd (c.required.invariant name (subst (λ (z : List (List ℕ)). Contains z name) (sym (take_all c.required.name-index c.args.required.now (omega arith))) required) unknown),
)
