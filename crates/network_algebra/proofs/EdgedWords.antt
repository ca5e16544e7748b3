-- Letters with and without the edge.
use Rattle.std.proofs.Common.{◌≡◌, ◌↔◌, List, [], ◌∷◌, Some, None, map, refl, subst, sym, ap, ◌∙◌}
use Rattle.std.proofs.lemmas.Option.{same_Some}
use Rattle.fsm_base.specs.declared.letters.Bound.{Bound}
use Rattle.fsm_base.specs.declared.letters.Bound.TheVariants.{Edge, Inner}
use Rattle.fsa.specs.Automaton.{Automaton, UsesLetter}
use Rattle.fsa.specs.Language.{Accepts}
use Rattle.expr_meaning.specs.Operators.{inner, WithEdge}
use Rattle.network_algebra.specs.Renamed.{IsRenamed, inside_of}

inside_names : {L : Type 0} (v : List (Bound L)) (u : List L) → map inside_of v ≡ map Some u → v ≡ inner u
inside_names [] [] is = refl
inside_names {L} [] (y ∷ u) is = let e : [] ≡ Some y ∷ map Some u = is in absurd (cc)
inside_names {L} (x ∷ v) [] is = let e : inside_of x ∷ map inside_of v ≡ [] = is in absurd (cc)
inside_names {L} (Edge ∷ v) (y ∷ u) is = let e : None ∷ map inside_of v ≡ Some y ∷ map Some u = is in absurd (cc)
inside_names {L} (Inner x ∷ v) (y ∷ u) is =
    let e : Some x ∷ map inside_of v ≡ Some y ∷ map Some u = is in
    let head : x ≡ y = cc in
    let tail : map inside_of v ≡ map Some u = cc in
    ap (λ z. Inner z ∷ v) head ∙ ap (λ z. Inner y ∷ z) (inside_names v u tail)

names_inside : {L : Type 0} (u : List L) → map inside_of (inner u) ≡ map Some u
names_inside [] = refl
names_inside (x ∷ u) = ap (λ z. Some x ∷ z) (names_inside u)

pub inside_words : {L : Type 0} (P : List (Bound L) → Type 0) (u : List L) → IsRenamed inside_of P u ↔ P (inner u)
inside_words P u = (λ (v, p, is). subst P (inside_names v u is) p, λ p. (inner u, p, names_inside u))

edged_names : {L : Type 0} (v : List L) (w : List (Bound L)) → map (λ x. Some (Inner x)) v ≡ map Some w → w ≡ inner v
edged_names [] [] is = refl
edged_names {L} [] (y ∷ w) is = let e : [] ≡ Some y ∷ map Some w = is in absurd (cc)
edged_names {L} (x ∷ v) [] is = let e : Some (Inner x) ∷ map (λ x. Some (Inner x)) v ≡ [] = is in absurd (cc)
edged_names {L} (x ∷ v) (y ∷ w) is =
    let e : Some (Inner x) ∷ map (λ x. Some (Inner x)) v ≡ Some y ∷ map Some w = is in
    let head : y ≡ Inner x = cc in
    let tail : map (λ x. Some (Inner x)) v ≡ map Some w = cc in
    ap (λ z. z ∷ w) head ∙ ap (λ z. Inner x ∷ z) (edged_names v w tail)

names_edged : {L : Type 0} (v : List L) → map (λ x. Some (Inner x)) v ≡ map Some (inner v)
names_edged [] = refl
names_edged (x ∷ v) = ap (λ z. Some (Inner x) ∷ z) (names_edged v)

pub edged_words : {L : Type 0} (P : List L → Type 0) (w : List (Bound L)) → IsRenamed (λ x. Some (Inner x)) P w ↔ WithEdge P w
edged_words P w = (
  λ (v, p, is). (v, edged_names v w is, p),
  λ (v, is, p). (v, p, names_edged v ∙ ap (λ z. map Some z) (sym is)),
)

pub inside_letter : {L : Type 0} (x : Bound L) (y : L) → inside_of x ≡ Some y → x ≡ Inner y
inside_letter {L} Edge y is = let e : None ≡ Some y = is in absurd (cc)
inside_letter {L} (Inner x) y is = let e : Some x ≡ Some y = is in cc

-- the automata of words without the edge, and of words as ones that might have it
module _ {L : Type 0} where
  pub inside_used : (a : Automaton (Bound L)) (m : Automaton L) → ((y : L) → UsesLetter m y → (x : Bound L) × UsesLetter a x × (inside_of x ≡ Some y)) → (y : L) → UsesLetter m y → UsesLetter a (Inner y)
  inside_used a m letters y used = let r = letters y used in subst (UsesLetter a) (inside_letter r.0 y r.2) r.1

  pub inside_accepts : (a : Automaton (Bound L)) (m : Automaton L) → ((u : List L) → Accepts m u ↔ IsRenamed inside_of (Accepts a) u) → (u : List L) → Accepts m u ↔ Accepts a (inner u)
  inside_accepts a m language u = let same = inside_words (Accepts a) u in (λ h. same.0 ((language u).0 h), λ h. (language u).1 (same.1 h))

  pub edged_used : (a : Automaton L) (m : Automaton (Bound L)) → ((y : Bound L) → UsesLetter m y → (x : L) × UsesLetter a x × (Some (Inner x) ≡ Some y)) → (y : Bound L) → UsesLetter m y → (x : L) × UsesLetter a x × (y ≡ Inner x)
  edged_used a m letters y used = let r = letters y used in (r.0, r.1, sym (same_Some (Inner r.0) y r.2))

  pub edged_accepts : (a : Automaton L) (m : Automaton (Bound L)) → ((w : List (Bound L)) → Accepts m w ↔ IsRenamed (λ x. Some (Inner x)) (Accepts a) w) → (w : List (Bound L)) → Accepts m w ↔ WithEdge (Accepts a) w
  edged_accepts a m language w = let same = edged_words (Accepts a) w in (λ h. same.0 ((language w).0 h), λ h. (language w).1 (same.1 h))
