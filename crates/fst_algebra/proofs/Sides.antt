-- What a replacement of letters does to the sides of a word of pairs.
use Rattle.std.proofs.Common.{◌≡◌, ◌↔◌, ◌⊎◌, List, [], ◌∷◌, ◌++◌, Option, Some, None, refl, subst, sym, ap, inl, inr, ◌∙◌, append-nil}
use Rattle.std.specs.Option.{option_to_list}
use Rattle.std.proofs.lemmas.Option.{same_Some}
use Rattle.fsm_base.specs.declared.letters.Sym.{Sym}
use Rattle.fsm_base.specs.declared.letters.Pair.{Pair}
use Rattle.word_relations.specs.Relations.{AreSame, IsIdentity, IsCross, IsInverse, IsUpper, IsLower}
use Rattle.word_relations.specs.Words.{IsConcatenation}
use Rattle.fsa.specs.Automaton.{Automaton, UsesLetter}
use Rattle.fsa.specs.Language.{Accepts}
use Rattle.fst_algebra.specs.Relation.{uppers, lowers, IsRelated}
use Rattle.fst_algebra.proofs.Languages.{uppers-append, lowers-append}
use Rattle.fst_algebra.specs.Relations.{UsesUpper, UsesLower}
use Rattle.fst_algebra.proofs.Relabelled.{relabelled, IsRelabelled}

-- the replacements
abbrev pub on_both : Sym → Option Pair
on_both x = Some (record { up = Some x; low = Some x })

abbrev pub on_upper : Sym → Option Pair
on_upper x = Some (record { up = Some x; low = None })

abbrev pub on_lower : Sym → Option Pair
on_lower x = Some (record { up = None; low = Some x })

abbrev pub exchanged : Pair → Option Pair
exchanged pair = Some (record { up = pair.low; low = pair.up })

abbrev pub upper_of : Pair → Option Sym
upper_of pair = pair.up

abbrev pub lower_of : Pair → Option Sym
lower_of pair = pair.low

-- identity
both_uppers : (v : List Sym) → uppers (relabelled on_both v) ≡ v
both_uppers [] = refl
both_uppers (x ∷ v) = ap (λ (u : List Sym). x ∷ u) (both_uppers v)

both_lowers : (v : List Sym) → lowers (relabelled on_both v) ≡ v
both_lowers [] = refl
both_lowers (x ∷ v) = ap (λ (u : List Sym). x ∷ u) (both_lowers v)

module _ (P : List Sym → Type 0) (m : Automaton Pair) where
  pub identity_relation : ((w : List Pair) → Accepts m w ↔ IsRelabelled on_both P w) → AreSame (IsRelated m) (IsIdentity P)
  identity_relation same u w = (there, back)
    where
      there : IsRelated m u w → IsIdentity P u w
      there (pairs, path, up, low) =
          let r = (same pairs).0 path in
          let is_upper : r.0 ≡ u = sym (both_uppers r.0) ∙ ap uppers r.2 ∙ up in
          let is_lower : r.0 ≡ w = sym (both_lowers r.0) ∙ ap lowers r.2 ∙ low in
          (subst P is_upper r.1, sym is_upper ∙ is_lower)

      back : IsIdentity P u w → IsRelated m u w
      back (p, is) = (relabelled on_both u, (same (relabelled on_both u)).1 (u, p, refl), both_uppers u, both_lowers u ∙ is)

-- cross product
upper_uppers : (v : List Sym) → uppers (relabelled on_upper v) ≡ v
upper_uppers [] = refl
upper_uppers (x ∷ v) = ap (λ (u : List Sym). x ∷ u) (upper_uppers v)

upper_lowers : (v : List Sym) → lowers (relabelled on_upper v) ≡ []
upper_lowers [] = refl
upper_lowers (x ∷ v) = upper_lowers v

lower_uppers : (v : List Sym) → uppers (relabelled on_lower v) ≡ []
lower_uppers [] = refl
lower_uppers (x ∷ v) = lower_uppers v

lower_lowers : (v : List Sym) → lowers (relabelled on_lower v) ≡ v
lower_lowers [] = refl
lower_lowers (x ∷ v) = ap (λ (u : List Sym). x ∷ u) (lower_lowers v)

crossed_uppers : (u v : List Sym) → uppers (relabelled on_upper u ++ relabelled on_lower v) ≡ u
crossed_uppers u v =
    uppers-append (relabelled on_upper u) (relabelled on_lower v) ∙ ap (λ (z : List Sym). z ++ uppers (relabelled on_lower v)) (upper_uppers u) ∙ ap (λ (z : List Sym). u ++ z) (lower_uppers v) ∙ append-nil u

crossed_lowers : (u v : List Sym) → lowers (relabelled on_upper u ++ relabelled on_lower v) ≡ v
crossed_lowers u v =
    lowers-append (relabelled on_upper u) (relabelled on_lower v) ∙ ap (λ (z : List Sym). z ++ lowers (relabelled on_lower v)) (upper_lowers u) ∙ lower_lowers v

module _ (P Q : List Sym → Type 0) (above below m : Automaton Pair) where
  pub cross_relation : ((w : List Pair) → Accepts above w ↔ IsRelabelled on_upper P w) → ((w : List Pair) → Accepts below w ↔ IsRelabelled on_lower Q w) → ((w : List Pair) → Accepts m w ↔ IsConcatenation (Accepts above) (Accepts below) w) → AreSame (IsRelated m) (IsCross P Q)
  cross_relation first second both u w = (there, back)
    where
      there : IsRelated m u w → IsCross P Q u w
      there (pairs, path, up, low) =
          let parts = (both pairs).0 path in
          let f = (first parts.0).0 parts.3 in
          let s = (second parts.1).0 parts.4 in
          let is : pairs ≡ relabelled on_upper f.0 ++ relabelled on_lower s.0 = parts.2 ∙ ap (λ (z : List Pair). z ++ parts.1) (sym f.2) ∙ ap (λ (z : List Pair). relabelled on_upper f.0 ++ z) (sym s.2) in
          let is_upper : f.0 ≡ u = sym (crossed_uppers f.0 s.0) ∙ ap uppers (sym is) ∙ up in
          let is_lower : s.0 ≡ w = sym (crossed_lowers f.0 s.0) ∙ ap lowers (sym is) ∙ low in
          (subst P is_upper f.1, subst Q is_lower s.1)

      back : IsCross P Q u w → IsRelated m u w
      back (p, q) = (
        relabelled on_upper u ++ relabelled on_lower w,
        (both (relabelled on_upper u ++ relabelled on_lower w)).1 (relabelled on_upper u, relabelled on_lower w, refl, (first (relabelled on_upper u)).1 (u, p, refl), (second (relabelled on_lower w)).1 (w, q, refl)),
        crossed_uppers u w,
        crossed_lowers u w,
      )

-- inverse
exchanged_uppers : (v : List Pair) → uppers (relabelled exchanged v) ≡ lowers v
exchanged_uppers [] = refl
exchanged_uppers (x ∷ v) = ap (λ (u : List Sym). option_to_list x.low ++ u) (exchanged_uppers v)

exchanged_lowers : (v : List Pair) → lowers (relabelled exchanged v) ≡ uppers v
exchanged_lowers [] = refl
exchanged_lowers (x ∷ v) = ap (λ (u : List Sym). option_to_list x.up ++ u) (exchanged_lowers v)

module _ (r m : Automaton Pair) where
  pub inverse_relation : ((w : List Pair) → Accepts m w ↔ IsRelabelled exchanged (Accepts r) w) → AreSame (IsRelated m) (IsInverse (IsRelated r))
  inverse_relation same u w = (there, back)
    where
      there : IsRelated m u w → IsRelated r w u
      there (pairs, path, up, low) =
          let f = (same pairs).0 path in
          (f.0, f.1, sym (exchanged_lowers f.0) ∙ ap lowers f.2 ∙ low, sym (exchanged_uppers f.0) ∙ ap uppers f.2 ∙ up)

      back : IsRelated r w u → IsRelated m u w
      back (pairs, path, up, low) = (relabelled exchanged pairs, (same (relabelled exchanged pairs)).1 (pairs, path, refl), exchanged_uppers pairs ∙ low, exchanged_lowers pairs ∙ up)

module _ (r : Automaton Pair) (m : Automaton Sym) where
  pub upper_language : ((w : List Sym) → Accepts m w ↔ IsRelabelled upper_of (Accepts r) w) → (w : List Sym) → Accepts m w ↔ IsUpper (IsRelated r) w
  upper_language same w = (
    λ h. let f = (same w).0 h in (lowers f.0, (f.0, f.1, f.2, refl)),
    λ (low, (pairs, path, is, low_is)). (same w).1 (pairs, path, is),
  )

  pub lower_language : ((w : List Sym) → Accepts m w ↔ IsRelabelled lower_of (Accepts r) w) → (w : List Sym) → Accepts m w ↔ IsLower (IsRelated r) w
  lower_language same w = (
    λ h. let f = (same w).0 h in (uppers f.0, (f.0, f.1, refl, f.2)),
    λ (up, (pairs, path, up_is, is)). (same w).1 (pairs, path, is),
  )

-- which symbols stand on the edges
module _ (a : Automaton Sym) (m : Automaton Pair) where
  pub identity_upper : ((y : Pair) → UsesLetter m y → (x : Sym) × UsesLetter a x × (on_both x ≡ Some y)) → (x : Sym) → UsesUpper m x → UsesLetter a x
  identity_upper letters x (pair, uses, is) = let r = letters pair uses in subst (UsesLetter a) (same_Some _ _ (ap (λ p. p.up) (same_Some _ _ r.2) ∙ is)) r.1

  pub identity_lower : ((y : Pair) → UsesLetter m y → (x : Sym) × UsesLetter a x × (on_both x ≡ Some y)) → (x : Sym) → UsesLower m x → UsesLetter a x
  identity_lower letters x (pair, uses, is) = let r = letters pair uses in subst (UsesLetter a) (same_Some _ _ (ap (λ p. p.low) (same_Some _ _ r.2) ∙ is)) r.1

module _ (a b : Automaton Sym) (above below m : Automaton Pair)
    (first : (y : Pair) → UsesLetter above y → (x : Sym) × UsesLetter a x × (on_upper x ≡ Some y))
    (second : (y : Pair) → UsesLetter below y → (x : Sym) × UsesLetter b x × (on_lower x ≡ Some y))
    (both : (y : Pair) → UsesLetter m y → UsesLetter above y ⊎ UsesLetter below y) where
  pub cross_upper : (x : Sym) → UsesUpper m x → UsesLetter a x
  cross_upper x (pair, uses, is) =
      elim (both pair uses) [
        | inl h ↦ let r = first pair h in subst (UsesLetter a) (same_Some _ _ (ap (λ p. p.up) (same_Some _ _ r.2) ∙ is)) r.1
        | inr h ↦ let r = second pair h in let clash : None ≡ Some x = ap (λ p. p.up) (same_Some _ _ r.2) ∙ is in absurd (cc)
      ]

  pub cross_lower : (x : Sym) → UsesLower m x → UsesLetter b x
  cross_lower x (pair, uses, is) =
      elim (both pair uses) [
        | inl h ↦ let r = first pair h in let clash : None ≡ Some x = ap (λ p. p.low) (same_Some _ _ r.2) ∙ is in absurd (cc)
        | inr h ↦ let r = second pair h in subst (UsesLetter b) (same_Some _ _ (ap (λ p. p.low) (same_Some _ _ r.2) ∙ is)) r.1
      ]

module _ (r m : Automaton Pair) (letters : (y : Pair) → UsesLetter m y → (x : Pair) × UsesLetter r x × (exchanged x ≡ Some y)) where
  pub inverse_upper : (x : Sym) → UsesUpper m x → UsesLower r x
  inverse_upper x (pair, uses, is) = let f = letters pair uses in (f.0, f.1, ap (λ p. p.up) (same_Some _ _ f.2) ∙ is)

  pub inverse_lower : (x : Sym) → UsesLower m x → UsesUpper r x
  inverse_lower x (pair, uses, is) = let f = letters pair uses in (f.0, f.1, ap (λ p. p.low) (same_Some _ _ f.2) ∙ is)
