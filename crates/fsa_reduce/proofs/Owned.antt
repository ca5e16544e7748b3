-- Of each class of states the edges of one state.
use Rattle.std.proofs.Common.{◌≡◌, ℕ, ◌+◌, ◌<◌, ◌≤◌, ◌↔◌, List, [], ◌∷◌, ◌++◌, Bool, Some, length, get_or, set, replicate, take, sym, ap, subst, inl, inr, arith, ◌∙◌}
use Rattle.std.specs.List.{Contains, slice_get}
use Rattle.std.proofs.lemmas.Bool.{cases_eq}
use Rattle.std.proofs.lemmas.List.{length-set, length-replicate, take_more, take_all}
use Rattle.std.proofs.lemmas.List.Elements.{Contains-push_cases, Contains-push, Contains-append_left}
use Rattle.std.proofs.lemmas.Option.{slice_get_within}
use Rattle.word_relations.proofs.Members.{Contains-nil_cases}
use Rattle.word_relations.proofs.Places.{same_at, slice_get-set_same, slice_get-set_other}
use Rattle.fsa.specs.declared.automaton.Edge.{Edge}
use Rattle.fsa_explore.proofs.Grouping.{last_or_before}
use Rattle.fsa_reduce.specs.Classes.{AreAlike}
use Rattle.fsa_reduce.specs.Merging.{AreOfClasses, AreOwn, IsOwn}
use Rattle.fsa_reduce.proofs.MergedLanguage.{IsMovedOf}

-- the same of the states before one of them
pub record AreOfClassesBefore (classes : List ℕ) (count upto : ℕ) (states : List ℕ) : Type 0 where
  pub count_is : length states ≡ count
  pub all : (s k : ℕ) → s < upto → slice_get classes s ≡ Some k → (r : ℕ) × (slice_get states k ≡ Some r) × (slice_get classes r ≡ Some k)

module _ (classes : List ℕ) (count : ℕ) where
  pub states_none : (states : List ℕ) → states ≡ replicate count 0 → AreOfClassesBefore classes count 0 states
  states_none states is = record {
    count_is = ap length is ∙ length-replicate count 0;
    all = λ s k before at. absurd (omega arith);
  }

  pub states_more : (i k : ℕ) (states : List ℕ) → slice_get classes i ≡ Some k → k < count → AreOfClassesBefore classes count i states → AreOfClassesBefore classes count (i + 1) (set states k i)
  states_more i k states at inside before = record {
    count_is = length-set states k i ∙ before.count_is;
    all = λ s j upto at_s. elim (cases_eq j k) [
      | inl same ↦
          let c = before.count_is in
          let l : k < length states = omega arith in
          (i, subst (λ x. slice_get (set states k i) x ≡ Some i) (sym same) (slice_get-set_same states k i l), at ∙ ap Some (sym same))
      | inr other ↦ elim (last_or_before i s upto) [
        | inl b ↦
            let r = before.all s j b at_s in
            (r.0, slice_get-set_other states k j i other ∙ r.1, r.2)
        | inr last ↦ absurd (other (same_at classes i j k (subst (λ x. slice_get classes x ≡ Some j) last at_s) at))
      ]
    ];
  }

  pub states_all : (i : ℕ) (states : List ℕ) → length classes ≤ i → AreOfClassesBefore classes count i states → AreOfClasses classes states
  states_all i states past before s k at = let l = slice_get_within classes s k at in before.all s k (omega arith) at

module _ (classes states : List ℕ) (edges : List (Edge ℕ)) where
  pub own_none : AreOwn classes states (take 0 edges) []
  own_none e = (λ h. absurd (Contains-nil_cases e h), λ h. absurd (Contains-nil_cases e h.0))

  pub own_more : (i : ℕ) (x : Edge ℕ) → i < length edges → x ≡ get_or edges i x → (own new : List (Edge ℕ)) → IsOwn classes states x.from → new ≡ own ++ x ∷ [] → AreOwn classes states (take i edges) own → AreOwn classes states (take (i + 1) edges) new
  own_more i x within at own new is_own is before e =
      let front : take (i + 1) edges ≡ take i edges ++ x ∷ [] = take_more edges i x within ∙ ap (λ z. take i edges ++ z ∷ []) (sym at) in (
        λ h. elim (Contains-push_cases own x e (subst (λ es. Contains es e) is h)) [
          | inl held ↦ let r = (before e).0 held in (subst (λ es. Contains es e) (sym front) (Contains-append_left (take i edges) (x ∷ []) e r.0), r.1)
          | inr same ↦ (subst (λ es. Contains es e) (sym front) (subst (Contains (take i edges ++ x ∷ [])) same (Contains-push (take i edges) x)), subst (λ (y : Edge ℕ). IsOwn classes states y.from) same is_own)
        ],
        λ r. subst (λ es. Contains es e) (sym is) (elim (Contains-push_cases (take i edges) x e (subst (λ es. Contains es e) front r.0)) [
          | inl held ↦ Contains-append_left own (x ∷ []) e ((before e).1 (held, r.1))
          | inr same ↦ subst (Contains (own ++ x ∷ [])) same (Contains-push own x)
        ]),
      )

  pub own_past : (i : ℕ) (x : Edge ℕ) → i < length edges → x ≡ get_or edges i x → (own : List (Edge ℕ)) → (IsOwn classes states x.from → ⊥) → AreOwn classes states (take i edges) own → AreOwn classes states (take (i + 1) edges) own
  own_past i x within at own other before e =
      let front : take (i + 1) edges ≡ take i edges ++ x ∷ [] = take_more edges i x within ∙ ap (λ z. take i edges ++ z ∷ []) (sym at) in (
        λ h. let r = (before e).0 h in (subst (λ es. Contains es e) (sym front) (Contains-append_left (take i edges) (x ∷ []) e r.0), r.1),
        λ r. elim (Contains-push_cases (take i edges) x e (subst (λ es. Contains es e) front r.0)) [
          | inl held ↦ (before e).1 (held, r.1)
          | inr same ↦ absurd (other (subst (λ (y : Edge ℕ). IsOwn classes states y.from) (sym same) r.1))
        ],
      )

  pub own_all : (i : ℕ) (own : List (Edge ℕ)) → length edges ≤ i → AreOwn classes states (take i edges) own → AreOwn classes states edges own
  own_all i own past before = subst (λ es. AreOwn classes states es own) (take_all i edges past) before

-- the edges of one state of each class are enough
pub own_enough : (finals : List Bool) (edges own merged : List (Edge ℕ)) (classes states : List ℕ) (count : ℕ) → AreAlike finals edges classes count → AreOfClasses classes states → AreOwn classes states edges own
    → ((f : Edge ℕ) → Contains merged f ↔ IsMovedOf classes own f) → (f : Edge ℕ) → Contains merged f ↔ IsMovedOf classes edges f
own_enough finals edges own merged classes states count alike of_classes are_own moves f = (
  λ h. let r = (moves f).0 h in (r.0, ((are_own r.0).0 r.1).0, r.2),
  λ (e, held, (from, letter, to)).
      let r = of_classes e.from f.from from in
      let n = alike.step e r.0 f.from held from r.2 in
      let g : Edge ℕ = n.0 in
      let is_from : slice_get classes g.from ≡ Some f.from = subst (λ x. slice_get classes x ≡ Some f.from) (sym n.3) r.2 in
      let is_own : IsOwn classes states g.from = (f.from, is_from, r.1 ∙ ap Some (sym n.3)) in
      let is_to : slice_get classes g.to ≡ Some f.to = n.6 ∙ ap Some (same_at classes e.to n.1 f.to n.5 to) in
      (moves f).1 (g, (are_own g).1 (n.2, is_own), (is_from, letter ∙ sym n.4, is_to)),
)
