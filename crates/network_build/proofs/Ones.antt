-- Expressions behind references, one after another.
use Rattle.std.proofs.Common.{◌≡◌, ◌<◌, ◌≤◌, ◌+◌, ◌++◌, ℕ, Bool, true, false, List, [], ◌∷◌, Contains, IsTrue, length, take, take_all, get_or, sym, ap, subst, ◌∙◌, inl, inr}
use Rattle.std.proofs.lemmas.List.{take_more, map-append}
use Rattle.std.proofs.lemmas.List.Elements.{Contains-get_or, Contains-push_cases}
use Rattle.std.proofs.lemmas.List.Folds.{list_any_at}
use Rattle.std.specs.Borrow.{Bor}
use Rattle.std.specs.List.{list_any}
use Rattle.word_relations.proofs.Members.{Contains-map}
use Rattle.fsm_base.specs.declared.letters.Sym.{Sym as Symbol}
use Rattle.regex_ast.specs.declared.expr.Atom.{Atom}
use Rattle.regex_ast.specs.declared.expr.Expr.{Expr}
use Rattle.regex_ast.specs.Terms.{Term, term}
use Rattle.expr_leaves.specs.Alphabet.{uses_alphabet}
use Rattle.network_centres.specs.Centres.{HasEmptyCentre, terms_seen}
use Rattle.network_expr.specs.declared.parts.Part.{Part}
use Rattle.network_build.specs.Made.{OneHasEmptyCentre}

-- one expression that uses the alphabet is enough
pub any_uses : (es : List (Term Atom)) (e : Term Atom) → Contains es e → uses_alphabet e ≡ true → list_any (λ f. uses_alphabet f) es ≡ true
any_uses es e at uses = list_any_at (λ (f : Term Atom). uses_alphabet f) es at.0 e at.1 (ap (λ (f : Term Atom). uses_alphabet f) at.2 ∙ uses)

module _ (expressions : List (Bor (Expr Atom))) (i : ℕ) (expr : Bor (Expr Atom)) (within : i < length expressions) (is : expr ≡ get_or expressions i expr) where
  -- the next expression is one of them, and stands behind those before it
  pub next_among : Contains (terms_seen expressions) (term expr.now)
  next_among =
      Contains-map (λ (x : Bor (Expr Atom)). term x.now) expressions expr
      (subst (λ (x : Bor (Expr Atom)). Contains expressions x) (sym is) (Contains-get_or expressions i expr within))

  next_behind : terms_seen (take (i + 1) expressions) ≡ terms_seen (take i expressions) ++ term expr.now ∷ []
  next_behind =
      ap terms_seen (take_more expressions i expr within)
      ∙ map-append (λ (x : Bor (Expr Atom)). term x.now) (take i expressions) (get_or expressions i expr ∷ [])
      ∙ ap (λ (x : Bor (Expr Atom)). terms_seen (take i expressions) ++ term x.now ∷ []) (sym is)

  -- none so far, and not this one
  pub none_more : (parts : List Part) (alphabet : List Symbol) → (OneHasEmptyCentre parts alphabet (terms_seen (take i expressions)) → ⊥) → (HasEmptyCentre parts alphabet (term expr.now) → ⊥)
      → OneHasEmptyCentre parts alphabet (terms_seen (take (i + 1) expressions)) → ⊥
  none_more parts alphabet none this (e, at, empty) =
      elim (Contains-push_cases (terms_seen (take i expressions)) (term expr.now) e (subst (λ (es : List (Term Atom)). Contains es e) next_behind at)) as (λ _. ⊥) [
        | inl before ↦ none (e, before, empty)
        | inr same ↦ this (subst (λ (f : Term Atom). HasEmptyCentre parts alphabet f) (sym same) empty)
      ]

pub none_at_all : (parts : List Part) (alphabet : List Symbol) (expressions : List (Bor (Expr Atom))) (i : ℕ) → length expressions ≤ i
    → (OneHasEmptyCentre parts alphabet (terms_seen (take i expressions)) → ⊥) → OneHasEmptyCentre parts alphabet (terms_seen expressions) → ⊥
none_at_all parts alphabet expressions i past none h =
    none (subst (λ (es : List (Bor (Expr Atom))). OneHasEmptyCentre parts alphabet (terms_seen es)) (sym (take_all i expressions past)) h)

pub not_true : (b : Bool) → b ≡ false → IsTrue b → ⊥
not_true b is h = let clash : true ≡ false = sym h ∙ is in cc
