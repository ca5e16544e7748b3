-- Which leaves are symbols of an alphabet.
use Rattle.std.proofs.Common.{◌≡◌, ◌⊎◌, ◌==◌, ◌||◌, ℕ, Bool, true, false, List, [], ◌∷◌, Contains, IsTrue, refl, sym, ap, inl, inr, eq-eqb}
use Rattle.std.proofs.lemmas.Bool.{eqb-true}
use Rattle.std.proofs.lemmas.Map.Views.{Contains-from_any}
use Rattle.std.specs.List.{list_any}
use Rattle.fsm_base.specs.declared.letters.Sym.{Sym as Symbol}
use Rattle.word_relations.proofs.Members.{Contains-cons_cases, Contains-nil_cases}
use Rattle.regex_ast.specs.declared.expr.Atom.TheVariants.{Sym}
use Rattle.expr_kinds.specs.Atoms.{is_symbol_of}

same_number : (a b : Symbol) → (b.0 == a.0) ≡ true → a ≡ b
same_number a b e = ap (λ (n : ℕ). record { 0 = n }) (sym (eqb-true b.0 a.0 e))

-- a symbol passes just where it stands in the alphabet; a name never does
pub symbol_held : (alphabet : List Symbol) (s : Symbol) → IsTrue (is_symbol_of alphabet (Sym s)) → Contains alphabet s
symbol_held alphabet s h = Contains-from_any {eq = λ (q t : Symbol). t.0 == q.0} same_number s alphabet h

pub symbol_passes : (alphabet : List Symbol) (s : Symbol) → Contains alphabet s → IsTrue (is_symbol_of alphabet (Sym s))
symbol_passes [] s at = absurd (Contains-nil_cases s at)
symbol_passes (t ∷ alphabet) s at = elim (Contains-cons_cases t alphabet s at) as (λ _. IsTrue (is_symbol_of (t ∷ alphabet) (Sym s))) [
  | inl is ↦ either (t.0 == s.0) (list_any (λ x. x.0 == s.0) alphabet) (inl (eq-eqb t.0 s.0 (ap (λ (x : Symbol). x.0) is)))
  | inr rest ↦ either (t.0 == s.0) (list_any (λ x. x.0 == s.0) alphabet) (inr (symbol_passes alphabet s rest))
]
  where
    either : (a b : Bool) → (a ≡ true) ⊎ (b ≡ true) → (a || b) ≡ true
    either true b h = refl
    either false b h = elim h as (λ _. b ≡ true) [ inl isnt ↦ (let never : false ≡ true = isnt in cc) | inr is ↦ is ]

pub never : IsTrue false → ⊥
never e = cc
