-- Groups of edges, edge by edge.
use Rattle.std.proofs.Common.{◌≡◌, ◌≢◌, ℕ, zero, suc, ◌<◌, ◌⊎◌, List, [], ◌∷◌, ◌++◌, Bool, true, false, Option, None, Some, cond, length, set, take, refl, sym, subst, ap, inl, inr, arith, ◌∙◌}
use Rattle.std.specs.Prelude.{Vec}
use Rattle.std.specs.Global.{Global}
use Rattle.std.specs.List.{slice_get, Contains}
use Rattle.std.specs.Ordering.{is_eq}
use Rattle.std.specs.declared.cmp.Ordering.{Ordering}
use Rattle.std.specs.declared.cmp.Ordering.TheVariants.{Less, Equal, Greater}
use Rattle.std.proofs.lemmas.Bool.{cases_lt}
use Rattle.std.proofs.lemmas.List.{length-set, length_push}
use Rattle.std.proofs.lemmas.List.Elements.{Contains-push, Contains-push_cases, Contains-append_left}
use Rattle.std.proofs.lemmas.Option.{same_Some, slice_get_within, none-some}
use Rattle.word_relations.proofs.Places.{slice_get-append_left, slice_get-push, slice_get-set_same, slice_get-set_other, same_at}
use Rattle.word_relations.proofs.Members.{Contains-nil_cases}
use Rattle.fsa.specs.declared.automaton.Edge.{Edge}
use Rattle.fsa_partial.specs.declared.grouping.Arc.{Arc}
use Rattle.fsa_partial.specs.Groups.{IsGroup, IsGrouping, AreGroups}
use Rattle.fsa_partial.proofs.Fewest.{same_or_not}

pub same_arc : (a : Arc) (s t : ℕ) → a.from ≡ s → a.to ≡ t → a ≡ record { from = s; to = t }
same_arc a s t one two = subst (λ n. a ≡ record { from = n; to = t }) one (subst (λ m. a ≡ record { from = a.from; to = m }) two refl)

-- no element stands in an empty front
pub none_taken : {X : Type 0} (xs : List X) (x : X) → Contains (take 0 xs) x → ⊥
none_taken [] x h = Contains-nil_cases x h
none_taken (y ∷ xs) x h = Contains-nil_cases x h

pub is_equal : (o : Ordering) → is_eq o ≡ true → o ≡ Equal
is_equal Less e = cc
is_equal Equal e = refl
is_equal Greater e = cc

pub grouping_none : {L : Type 0} (edges : List (Edge L)) (find : L → Option ℕ) → ((x : L) → find x ≡ None) → IsGrouping (take 0 edges) find []
grouping_none edges find none = record {
  within = λ x k h. absurd (none-some k (sym (none x) ∙ h));
  once = λ x y k h _. absurd (none-some k (sym (none x) ∙ h));
  named = λ k l. absurd (omega arith);
  group = λ x k v h _. absurd (none-some k (sym (none x) ∙ h));
  found = λ e h. absurd (none_taken edges e h);
}

module _ {L : Type 0} (edges : List (Edge L)) (find : L → Option ℕ) (groups : List (Vec Arc Global)) (is : IsGrouping edges find groups) where
  pub groups_all : AreGroups edges groups
  groups_all = record {
    each = λ k v at. let r = is.named k (slice_get_within groups k v at) in (r.0, is.group r.0 k v r.1 at);
    all = λ e h.
        let r = is.found e h in
        let v = there groups r.2.0 (is.within r.0 r.2.0 r.2.1) in
        (r.0, r.1, (r.2.0, (v.0, v.1, is.group r.0 r.2.0 v.0 r.2.1 v.1)));
  }
    where
      there : {X : Type 0} (xs : List X) (k : ℕ) → k < length xs → (x : X) × (slice_get xs k ≡ Some x)
      there [] k l = absurd (omega arith)
      there (x ∷ xs) zero l = (x, refl)
      there (x ∷ xs) (suc k) l = there xs k (omega arith)

  -- a group for one more letter
  module _ (x : L) (at : L → Bool) (same : (y : L) → at y ≡ true → x ≡ y) (itself : at x ≡ true) (none : find x ≡ None) (new : L → Option ℕ) (is_new : (y : L) → new y ≡ cond (at y) (Some (length groups)) (find y))
      (arcs : Vec Arc Global) (empty : arcs.items ≡ []) where
    cases : (y : L) → ((x ≡ y) × (new y ≡ Some (length groups))) ⊎ (new y ≡ find y)
    cases y = by (at y) refl
      where
        by : (b : Bool) → at y ≡ b → ((x ≡ y) × (new y ≡ Some (length groups))) ⊎ (new y ≡ find y)
        by true e = inl (same y e, is_new y ∙ ap (λ b. cond b (Some (length groups)) (find y)) e)
        by false e = inr (is_new y ∙ ap (λ b. cond b (Some (length groups)) (find y)) e)

    not_x : (y : L) (k : ℕ) → x ≡ y → find y ≡ Some k → ⊥
    not_x y k e was = none-some k (sym none ∙ ap find e ∙ was)

    kept : (y : L) (k : ℕ) → find y ≡ Some k → new y ≡ Some k
    kept y k was = elim (cases y) [ inl r ↦ absurd (not_x y k r.0 was) | inr e ↦ e ∙ was ]

    last : (y : L) (k : ℕ) → new y ≡ Some (length groups) → new y ≡ Some k → length groups ≡ k
    last y k e h = same_Some (length groups) k (sym e ∙ h)

    new_within : (y : L) (k : ℕ) → new y ≡ Some k → k < length (groups ++ arcs ∷ [])
    new_within y k h = let n = length_push groups arcs in elim (cases y) [
      | inl r ↦ let p = last y k r.1 h in omega arith
      | inr e ↦ let w = is.within y k (sym e ∙ h) in omega arith
    ]

    new_once : (y z : L) (k : ℕ) → new y ≡ Some k → new z ≡ Some k → y ≡ z
    new_once y z k hy hz = elim (cases y) [
      | inl r ↦ elim (cases z) [
        | inl q ↦ sym r.0 ∙ q.0
        | inr e ↦ let p = last y k r.1 hy in let w = is.within z k (sym e ∙ hz) in absurd (omega arith)
      ]
      | inr e ↦ elim (cases z) [
        | inl q ↦ let p = last z k q.1 hz in let w = is.within y k (sym e ∙ hy) in absurd (omega arith)
        | inr f ↦ is.once y z k (sym e ∙ hy) (sym f ∙ hz)
      ]
    ]

    new_named : (k : ℕ) → k < length (groups ++ arcs ∷ []) → (y : L) × (new y ≡ Some k)
    new_named k l = elim (cases_lt k (length groups)) [
      | inl old ↦ let r = is.named k old in (r.0, kept r.0 k r.1)
      | inr past ↦
          let n = length_push groups arcs in
          let this : length groups ≡ k = omega arith in
          (x, is_new x ∙ ap (λ b. cond b (Some (length groups)) (find x)) itself ∙ ap Some this)
    ]

    new_group : (y : L) (k : ℕ) (v : Vec Arc Global) → new y ≡ Some k → slice_get (groups ++ arcs ∷ []) k ≡ Some v → IsGroup edges y v.items
    new_group y k v hy at_k = elim (cases y) [
      | inl r ↦
          let p = last y k r.1 hy in
          let v_is : arcs ≡ v = same_at (groups ++ arcs ∷ []) k arcs v (subst (λ j. slice_get (groups ++ arcs ∷ []) j ≡ Some arcs) p (slice_get-push groups arcs)) at_k in
          let nothing : v.items ≡ [] = ap (λ (u : Vec Arc Global). u.items) (sym v_is) ∙ empty in
          λ s t. (
            λ h. absurd (Contains-nil_cases (record { from = s; to = t }) (subst (λ xs. Contains xs (record { from = s; to = t })) nothing h)),
            λ h.
                let f = is.found (record { from = s; letter = Some y; to = t }) h in
                let y_is : y ≡ f.0 = same_Some y f.0 f.1 in
                absurd (not_x f.0 f.2.0 (r.0 ∙ y_is) f.2.1),
          )
      | inr e ↦
          let was : find y ≡ Some k = sym e ∙ hy in
          is.group y k v was (sym (slice_get-append_left groups (arcs ∷ []) k (is.within y k was)) ∙ at_k)
    ]

    pub grouping_new : IsGrouping edges new (groups ++ arcs ∷ [])
    grouping_new = record {
      within = new_within;
      once = new_once;
      named = new_named;
      group = new_group;
      found = λ e h. let r = is.found e h in (r.0, r.1, (r.2.0, kept r.0 r.2.0 r.2.1));
    }

  -- one more edge in the group of its letter
  module _ (x : L) (k : ℕ) (place : find x ≡ Some k) (old new : Vec Arc Global) (at_old : slice_get groups k ≡ Some old) (a : Arc) (pushed : new.items ≡ old.items ++ a ∷ [])
      (e : Edge L) (is_e : e ≡ record { from = a.from; letter = Some x; to = a.to }) where
    here : slice_get (set groups k new) k ≡ Some new
    here = slice_get-set_same groups k new (slice_get_within groups k old at_old)

    edge_of : (s t : ℕ) (y : L) → a ≡ record { from = s; to = t } → x ≡ y → e ≡ record { from = s; letter = Some y; to = t }
    edge_of s t y is_a is_y = is_e ∙ ap (λ (b : Arc). record { from = b.from; letter = Some x; to = b.to }) is_a ∙ ap (λ z. record { from = s; letter = Some z; to = t }) is_y

    this_group : (y : L) (v : Vec Arc Global) → x ≡ y → new ≡ v → IsGroup (edges ++ e ∷ []) y v.items
    this_group y v is_y is_v s t =
        let base = is.group y k old (ap find (sym is_y) ∙ place) at_old s t in
        let b : Arc = record { from = s; to = t } in
        let f : Edge L = record { from = s; letter = Some y; to = t } in
        let items : v.items ≡ old.items ++ a ∷ [] = ap (λ (u : Vec Arc Global). u.items) (sym is_v) ∙ pushed in (
          λ h. elim (Contains-push_cases old.items a b (subst (λ xs. Contains xs b) items h)) [
            | inl was ↦ Contains-append_left edges (e ∷ []) f (base.0 was)
            | inr one ↦ subst (Contains (edges ++ e ∷ [])) (edge_of s t y one is_y) (Contains-push edges e)
          ],
          λ h. subst (λ xs. Contains xs b) (sym items) (elim (Contains-push_cases edges e f h) [
            | inl was ↦ Contains-append_left old.items (a ∷ []) b (base.1 was)
            | inr one ↦
                let same : record { from = a.from; letter = Some x; to = a.to } ≡ f = sym is_e ∙ one in
                subst (Contains (old.items ++ a ∷ [])) (same_arc a s t (ap (λ (d : Edge L). d.from) same) (ap (λ (d : Edge L). d.to) same)) (Contains-push old.items a)
          ]),
        )

    other_group : (y : L) (j : ℕ) (v : Vec Arc Global) → find y ≡ Some j → j ≢ k → slice_get groups j ≡ Some v → IsGroup (edges ++ e ∷ []) y v.items
    other_group y j v at_y ne at_j s t =
        let base = is.group y j v at_y at_j s t in
        let f : Edge L = record { from = s; letter = Some y; to = t } in (
          λ h. Contains-append_left edges (e ∷ []) f (base.0 h),
          λ h. elim (Contains-push_cases edges e f h) [
            | inl was ↦ base.1 was
            | inr one ↦
                let same : Some x ≡ Some y = ap (λ (d : Edge L). d.letter) (sym is_e ∙ one) in
                let is_y : x ≡ y = same_Some x y same in
                absurd (ne (same_Some j k (sym at_y ∙ ap find (sym is_y) ∙ place)))
          ],
        )

    pub grouping_push : IsGrouping (edges ++ e ∷ []) find (set groups k new)
    grouping_push = record {
      within = λ y j h. let w = is.within y j h in let n = length-set groups k new in omega arith;
      once = is.once;
      named = λ j l. is.named j (let n = length-set groups k new in omega arith);
      group = λ y j v h at_j. elim (same_or_not j k) [
        | inl e_k ↦
            let is_y : x ≡ y = is.once x y k place (subst (λ i. find y ≡ Some i) e_k h) in
            let is_v : new ≡ v = same_at (set groups k new) k new v here (subst (λ i. slice_get (set groups k new) i ≡ Some v) e_k at_j) in
            this_group y v is_y is_v
        | inr ne ↦ other_group y j v h ne (sym (slice_get-set_other groups k j new ne) ∙ at_j)
      ];
      found = λ d h. elim (Contains-push_cases edges e d h) [
        | inl was ↦ is.found d was
        | inr one ↦ (x, ap (λ (c : Edge L). c.letter) (sym one ∙ is_e), (k, place))
      ];
    }
