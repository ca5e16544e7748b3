-- The words in which each part of a language stands at an allowed place.
use Rattle.std.proofs.Common.{◌≡◌, ◌↔◌, ◌⊎◌, List, [], ◌∷◌, ◌++◌, sym, ap, subst, ◌∙◌, inl, inr}
use Rattle.std.specs.List.{Contains}
use Rattle.fsm_base.specs.declared.letters.Sym.{Sym}
use Rattle.fsm_base.specs.declared.letters.Bound.{Bound}
use Rattle.fsm_base.specs.declared.letters.Bound.TheVariants.{Edge, Inner}
use Rattle.word_relations.specs.Words.{IsOver, IsRepetition, Translates}
use Rattle.word_relations.proofs.Laws.{IsOver-repetition, IsRepetition-more}
use Rattle.word_relations.proofs.Members.{Contains-cons_cases, Contains-nil_cases, Contains-head}
use Rattle.fsa.specs.Automaton.{Automaton, UsesLetter}
use Rattle.fsa.specs.Language as language
use Rattle.fsa.specs.Complete.{Complete, Accepts}
use Rattle.fsa_product.proofs.Turned.{accepts_or_not, accepted_over}
use Rattle.lang_algebra.specs.Languages.{IsLang}
use Rattle.word_relations.specs.Operations.{IsOneLetter}
use Rattle.expr_meaning.specs.Operators.{inner, WithEdge}
use Rattle.network_algebra.specs.Networks.{all_letters, UsesOnly}
use Rattle.network_algebra.proofs.Meanings.{inner_among, among_inner}
use Rattle.network_sets.specs.Split.{split, split_letters, IsPlace, kept_table}
use Rattle.network_sets.specs.declared.parts.Split.{Split}
use Rattle.network_sets.proofs.Inside.{over_inner, over_left, over_right, inside_all}
use Rattle.network_sets.proofs.Splits.{translated, place_kept, place_left, left_of}

-- all words over some letters
pub any_only : {L : Type 0} (letters : List L) (one m : Automaton L) → ((x : L) → UsesLetter one x → Contains letters x) → ((x : L) → UsesLetter m x → UsesLetter one x) → UsesOnly letters m
any_only letters one m first second x used = first x (second x used)

pub any_words : {L : Type 0} (letters : List L) (one m : Automaton L) → ((w : List L) → language.Accepts one w ↔ IsOneLetter letters w) → ((w : List L) → language.Accepts m w ↔ IsRepetition (language.Accepts one) w) → (w : List L) → language.Accepts m w ↔ IsOver letters w
any_words letters one m one_is m_is w = (
  λ h. (IsOver-repetition letters w).1 (IsRepetition-more (language.Accepts one) (IsOneLetter letters) (λ v. (one_is v).0) w ((m_is w).0 h)),
  λ over. (m_is w).1 (IsRepetition-more (IsOneLetter letters) (language.Accepts one) (λ v. (one_is v).1) w ((IsOver-repetition letters w).0 over)),
)

-- split words of three parts over an alphabet
pub parts_only : (symbols : List Sym) (before part behind : Automaton (Bound Sym)) (m : Automaton Split) → UsesOnly (all_letters symbols) before → UsesOnly (all_letters symbols) part → UsesOnly (all_letters symbols) behind
    → ((s : List Sym) → UsesOnly (all_letters s) before → UsesOnly (all_letters s) part → UsesOnly (all_letters s) behind → UsesOnly (split_letters s) m) → UsesOnly (split_letters symbols) m
parts_only symbols before part behind m first second third whole = whole symbols first second third

pub inner_only : (symbols : List Sym) (m : Automaton (Bound Sym)) → UsesOnly (inner symbols) m → UsesOnly (all_letters symbols) m
inner_only symbols m only x used = inside_all symbols x (only x used)

pub edge_only : (symbols : List Sym) (m : Automaton (Bound Sym)) → ((x : Bound Sym) → UsesLetter m x → Contains (Edge ∷ []) x) → UsesOnly (all_letters symbols) m
edge_only symbols m only x used =
    elim (Contains-cons_cases Edge [] x (only x used)) as (λ _. Contains (all_letters symbols) x) [
      | inl e ↦ subst (Contains (all_letters symbols)) e (Contains-head Edge (inner symbols))
      | inr none ↦ absurd (Contains-nil_cases x none)
    ]

pub edged_only : (symbols : List Sym) (centre : Automaton (Bound Sym)) (side : Automaton Sym) (part : Automaton (Bound Sym)) → ((x : Sym) → UsesLetter side x → UsesLetter centre (Inner x)) → ((x : Bound Sym) → UsesLetter part x → (s : Sym) × UsesLetter side s × (x ≡ Inner s)) → UsesOnly (all_letters symbols) centre → UsesOnly (all_letters symbols) part
edged_only symbols centre side part first second only x used =
    let r = second x used in
    subst (Contains (all_letters symbols)) (sym r.2) (among_inner symbols r.0 (inner_among symbols r.0 (only (Inner r.0) (first r.0 r.1))))

pub edged_part : (centre : Automaton (Bound Sym)) (side : Automaton Sym) (part : Automaton (Bound Sym)) → ((u : List Sym) → language.Accepts side u ↔ language.Accepts centre (inner u)) → ((w : List (Bound Sym)) → language.Accepts part w ↔ WithEdge (language.Accepts side) w) → (w : List (Bound Sym)) → language.Accepts part w ↔ WithEdge (λ u. language.Accepts centre (inner u)) w
edged_part centre side part first second w = (
  λ h. let r = (second w).0 h in (r.0, r.1, (first r.0).0 r.2),
  λ (u, is, p). (second w).1 (u, is, (first u).1 p),
)

-- each place is allowed or among the wrong ones
pub each_place : (letters : List Split) (places allowed m : Automaton Split) (p a made : Complete Split) → IsLang letters (language.Accepts places) p → IsLang letters (language.Accepts allowed) a → IsLang p.letters (λ v. Accepts p v × ¬ Accepts a v) made → ((v : List Split) → language.Accepts m v ↔ Accepts made v)
    → (v : List Split) → language.Accepts places v → language.Accepts allowed v ⊎ language.Accepts m v
each_place letters places allowed m p a made of_places of_allowed is accepts v place =
    let in_p = (of_places.words v).1 place in
    let over : IsOver a.letters v = subst (λ (z : List Split). IsOver z v) (of_places.over ∙ sym of_allowed.over) (accepted_over p of_places.complete in_p) in
    elim (accepts_or_not a of_allowed.complete v 0 of_allowed.complete.start over) as (λ _. language.Accepts allowed v ⊎ language.Accepts m v) [
      | inl h ↦ inl ((of_allowed.words v).0 h)
      | inr none ↦ inr ((accepts v).1 ((is.words v).1 (in_p, none)))
    ]

pub wrong_words : (letters : List Split) (places allowed m : Automaton Split) (p a made : Complete Split) → IsLang letters (language.Accepts places) p → IsLang letters (language.Accepts allowed) a → IsLang p.letters (λ v. Accepts p v × ¬ Accepts a v) made → ((v : List Split) → language.Accepts m v ↔ Accepts made v)
    → (v : List Split) → language.Accepts m v ↔ (language.Accepts places v × ¬ language.Accepts allowed v)
wrong_words letters places allowed m p a made of_places of_allowed is accepts v = (
  λ h. let r = (is.words v).0 ((accepts v).0 h) in ((of_places.words v).0 r.0, λ x. r.1 ((of_allowed.words v).1 x)),
  λ h. (accepts v).1 ((is.words v).1 ((of_places.words v).1 h.0, λ x. h.1 ((of_allowed.words v).0 x))),
)

-- the words over the alphabet without a wrong place
module _ (symbols : List Sym) (centre : Automaton (Bound Sym)) (places allowed wrong : Automaton Split) (words : Automaton (Bound Sym)) (lang made : Complete (Bound Sym)) (m : Automaton (Bound Sym))
    (places_are : (v : List Split) → language.Accepts places v ↔ IsPlace symbols (language.Accepts centre) v)
    (wrong_are : (v : List Split) → language.Accepts wrong v ↔ (language.Accepts places v × ¬ language.Accepts allowed v))
    (each : (v : List Split) → language.Accepts places v → language.Accepts allowed v ⊎ language.Accepts wrong v)
    (words_are : (w : List (Bound Sym)) → language.Accepts words w ↔ ((v : List Split) × language.Accepts wrong v × Translates (kept_table (split_letters symbols)) v w))
    (of : IsLang (inner symbols) (language.Accepts words) lang) (is : IsLang lang.letters (λ w. IsOver lang.letters w × ¬ Accepts lang w) made) (accepts : (w : List (Bound Sym)) → language.Accepts m w ↔ Accepts made w) where
  abbrev Allowed : List (Bound Sym) → Type 0
  Allowed w = (x y z : List (Bound Sym)) → w ≡ x ++ (y ++ z) → language.Accepts centre y → language.Accepts allowed (split (Edge ∷ x) y (z ++ Edge ∷ []))

  pub restricted_words : (w : List (Bound Sym)) → language.Accepts m w ↔ (IsOver (inner symbols) w × Allowed w)
  restricted_words w = (there, upwards)
    where
      there : language.Accepts m w → IsOver (inner symbols) w × Allowed w
      there h =
          let r = (is.words w).0 ((accepts w).0 h) in
          let over : IsOver (inner symbols) w = subst (λ (z : List (Bound Sym)). IsOver z w) of.over r.0 in
          (over, all over (λ bad. r.1 ((of.words w).1 bad)))
        where
          all : IsOver (inner symbols) w → (language.Accepts words w → ⊥) → Allowed w
          all over none x y z e p =
              let whole : IsOver (inner symbols) (x ++ (y ++ z)) = subst (IsOver (inner symbols)) e over in
              let over_x : IsOver (inner symbols) x = over_left (Contains (inner symbols)) x (y ++ z) whole in
              let rest : IsOver (inner symbols) (y ++ z) = over_right (Contains (inner symbols)) x (y ++ z) whole in
              let over_y : IsOver (inner symbols) y = over_left (Contains (inner symbols)) y z rest in
              let over_z : IsOver (inner symbols) z = over_right (Contains (inner symbols)) y z rest in
              let u = over_inner symbols y over_y in
              let v : List Split = split (Edge ∷ x) y (z ++ Edge ∷ []) in
              let place : language.Accepts places v = (places_are v).1 (x, u.0, z, ap (λ s. split (Edge ∷ x) s (z ++ Edge ∷ [])) u.1, over_x, subst (language.Accepts centre) u.1 p, over_z) in
              elim (each v place) as (λ _. language.Accepts allowed v) [
                | inl ok ↦ ok
                | inr bad ↦ absurd (none ((words_are w).1 (v, bad, subst (λ s. Translates (kept_table (split_letters symbols)) v s) (sym e) (place_kept symbols x y z over_x over_y over_z))))
              ]

      refused : Allowed w → language.Accepts words w → ⊥
      refused all bad =
          let r = (words_are w).0 bad in
          let v = r.0 in
          let both = (wrong_are v).0 r.1 in
          let place = (places_are v).0 both.0 in
          let x = place.0 in
          let y = place.1 in
          let z = place.2 in
          let p = over_inner symbols x place.4 in
          let q = over_inner symbols z place.6 in
          let plain : v ≡ split (Edge ∷ inner p.0) (inner y) (inner q.0 ++ Edge ∷ []) = place.3 ∙ ap (λ s. split (Edge ∷ s) (inner y) (z ++ Edge ∷ [])) p.1 ∙ ap (λ s. split (Edge ∷ inner p.0) (inner y) (s ++ Edge ∷ [])) q.1 in
          let word : w ≡ inner p.0 ++ (inner y ++ inner q.0) = translated (split_letters symbols) r.2 ∙ ap left_of plain ∙ place_left symbols p.0 y q.0 in
          both.1 (subst (language.Accepts allowed) (sym plain) (all (inner p.0) (inner y) (inner q.0) word place.5))

      upwards : IsOver (inner symbols) w × Allowed w → language.Accepts m w
      upwards (over, all) = (accepts w).1 ((is.words w).1 (subst (λ (z : List (Bound Sym)). IsOver z w) (sym of.over) over, λ h. refused all ((of.words w).0 h)))
