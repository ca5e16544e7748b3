-- How a tree grows, and that in the end it has what the edges lead to.
use Rattle.std.proofs.Common.{◌≡◌, ℕ, zero, suc, ◌+◌, ◌<◌, ◌≤◌, ◌⊎◌, List, [], ◌∷◌, ◌++◌, Option, None, Some, length, get_or, take, refl, sym, subst, ap, inl, inr, arith, ◌∙◌, length-append, option_to_list}
use Rattle.std.specs.List.{Contains, slice_get}
use Rattle.std.proofs.lemmas.List.{take_all, take-append-le}
use Rattle.std.proofs.lemmas.List.Elements.{Contains-push_cases, Contains-push, Contains-append_left}
use Rattle.std.proofs.lemmas.Option.{slice_get_within, slice_get-get_or, same_Some}
use Rattle.word_relations.proofs.Members.{Contains-nil_cases}
use Rattle.word_relations.proofs.Places.{Contains-from_slice_get, slice_get-append_left, slice_get-append_cases, slice_get-push, take_more-slice_get}
use Rattle.fsa.specs.declared.automaton.Edge.{Edge}
use Rattle.lookup.specs.Graph.{IsPath, Connects, Leads}
use Rattle.lookup.specs.Tree.{AddsStep, AreSteps, AreReversed, IsGrowing, IsTree, reversed}
use Rattle.lookup.specs.declared.tree.Step.{Step}
use Rattle.lookup.specs.declared.tree.Tree.{Tree}
use Rattle.lookup.proofs.GraphPaths.{connects-append, connects_edge, leads-append, leads_edge, leads_turned, are_turned_back}

-- what stands at a place of a list with one element more
at_push : {X : Type 0} (xs : List X) (y : X) (i : ℕ) (x : X) → slice_get (xs ++ y ∷ []) i ≡ Some x → (slice_get xs i ≡ Some x) ⊎ ((i ≡ length xs) × (y ≡ x))
at_push xs y i x h = elim (slice_get-append_cases xs (y ∷ []) i x h) [
  | inl old ↦ inl old
  | inr new ↦ inr (at_first new.0 new.1 new.2)
] where
  at_first : (j : ℕ) → i ≡ j + length xs → slice_get (y ∷ []) j ≡ Some x → (i ≡ length xs) × (y ≡ x)
  at_first zero e h = (omega arith, same_Some y x h)
  at_first (suc j) e h = absurd (let l = slice_get_within (y ∷ []) (suc j) x h in omega arith)

keeps_at : {X : Type 0} (xs : List X) (y : X) (i : ℕ) (x : X) → slice_get xs i ≡ Some x → slice_get (xs ++ y ∷ []) i ≡ Some x
keeps_at xs y i x h = slice_get-append_left xs (y ∷ []) i (slice_get_within xs i x h) ∙ h

module _ {L : Type 0} (edges : List (Edge L)) (root : ℕ) where
  pub steps_first : AreSteps edges root (root ∷ []) (None ∷ [])
  steps_first = record {
    count = refl;
    rooted = λ i h. elim i as (λ i. slice_get {X = Option (Step L)} (None ∷ []) i ≡ Some None → slice_get (root ∷ []) i ≡ Some root) [
      | zero ↦ λ _. refl
      | suc j ↦ λ h. absurd (past j None h)
    ] h;
    downward = λ i step h. absurd (none i step h);
    held = λ i step h. absurd (none i step h);
    from = λ i step h. absurd (none i step h);
    to = λ i step h. absurd (none i step h);
  } where
    past : (j : ℕ) (o : Option (Step L)) → slice_get (None ∷ []) (suc j) ≡ Some o → ⊥
    past j o h = let l = slice_get_within (None ∷ []) (suc j) o h in omega arith

    none : (i : ℕ) (step : Step L) → slice_get (None ∷ []) i ≡ Some (Some step) → ⊥
    none zero step h = cc
    none (suc j) step h = past j (Some step) h

  -- one step more
  module _ (found : List ℕ) (steps : List (Option (Step L))) (s : AreSteps edges root found steps) (new : Step L) (held : Contains edges new.edge) (at : slice_get found new.before ≡ Some new.edge.from) where
    -- what holds of each step before, and of the new one
    each : (P : ℕ → Step L → Type 0) → ((i : ℕ) (step : Step L) → slice_get steps i ≡ Some (Some step) → P i step) → P (length steps) new
        → (i : ℕ) (step : Step L) → slice_get (steps ++ Some new ∷ []) i ≡ Some (Some step) → P i step
    each P old more i step h = elim (at_push steps (Some new) i (Some step) h) [
      | inl before ↦ old i step before
      | inr last ↦ subst (λ j. P j step) (sym last.0) (subst (λ t. P (length steps) t) (same_Some new step last.1) more)
    ]

    pub steps_more : AreSteps edges root (found ++ new.edge.to ∷ []) (steps ++ Some new ∷ [])
    steps_more = record {
      count = length-append steps (Some new ∷ []) ∙ ap (λ n. n + 1) s.count ∙ sym (length-append found (new.edge.to ∷ []));
      rooted = λ i h. elim (at_push steps (Some new) i None h) [
        | inl before ↦ keeps_at found new.edge.to i root (s.rooted i before)
        | inr last ↦ absurd (let e = last.1 in cc)
      ];
      downward = each (λ i step. step.before < i) s.downward (let l = slice_get_within found new.before new.edge.from at in let e = s.count in omega arith);
      held = each (λ i step. Contains edges step.edge) s.held held;
      from = each (λ i step. slice_get (found ++ new.edge.to ∷ []) step.before ≡ Some step.edge.from)
          (λ i step h. keeps_at found new.edge.to step.before step.edge.from (s.from i step h)) (keeps_at found new.edge.to new.before new.edge.from at);
      to = each (λ i step. slice_get (found ++ new.edge.to ∷ []) i ≡ Some step.edge.to)
          (λ i step h. keeps_at found new.edge.to i step.edge.to (s.to i step h))
          (subst (λ n. slice_get (found ++ new.edge.to ∷ []) n ≡ Some new.edge.to) (sym s.count) (slice_get-push found new.edge.to));
    }

  pub growing_first : (tree : Tree L) → tree.reached.found ≡ root ∷ [] → tree.steps.items ≡ None ∷ [] → IsGrowing edges root 0 tree
  growing_first tree is steps_is = record {
    steps = subst (λ fs. AreSteps edges root fs tree.steps.items) (sym is) (subst (λ ss. AreSteps edges root (root ∷ []) ss) (sym steps_is) steps_first);
    reached = λ q h. elim (Contains-push_cases [] root q (subst (λ fs. Contains fs q) is h)) [
      | inl old ↦ absurd (Contains-nil_cases q old)
      | inr same ↦ ([], same)
    ];
    root_found = subst (λ fs. Contains fs root) (sym is) (Contains-push [] root);
    followed = λ e _ h. absurd (Contains-nil_cases e.from h);
    number_within = omega arith;
  }

  -- one step of the node with the number
  module _ (number : ℕ) (old new : Tree L) (step : Step L) (adds : AddsStep old step new) where
    pub keeps_node : (q : ℕ) → Contains old.reached.found q → Contains new.reached.found q
    keeps_node q h = elim adds.1 [
      | inl same ↦ subst (λ fs. Contains fs q) (sym same.1) h
      | inr more ↦ subst (λ fs. Contains fs q) (sym more.0) (Contains-append_left old.reached.found (step.edge.to ∷ []) q h)
    ]

    pub has_target : Contains new.reached.found step.edge.to
    has_target = elim adds.1 [
      | inl same ↦ subst (λ fs. Contains fs step.edge.to) (sym same.1) same.0
      | inr more ↦ subst (λ fs. Contains fs step.edge.to) (sym more.0) (Contains-push old.reached.found step.edge.to)
    ]

    pub keeps_place : (i q : ℕ) → slice_get old.reached.found i ≡ Some q → slice_get new.reached.found i ≡ Some q
    keeps_place i q h = elim adds.1 [
      | inl same ↦ ap (λ fs. slice_get fs i) same.1 ∙ h
      | inr more ↦ ap (λ fs. slice_get fs i) more.0 ∙ keeps_at old.reached.found step.edge.to i q h
    ]

    keeps_front : number ≤ length old.reached.found → take number new.reached.found ≡ take number old.reached.found
    keeps_front l = elim adds.1 [
      | inl same ↦ ap (take number) same.1
      | inr more ↦ ap (take number) more.0 ∙ take-append-le number old.reached.found (step.edge.to ∷ []) l
    ]

    keeps_length : number ≤ length old.reached.found → number ≤ length new.reached.found
    keeps_length l = elim adds.1 [
      | inl same ↦ subst (λ fs. number ≤ length fs) (sym same.1) l
      | inr more ↦ subst (λ fs. number ≤ length fs) (sym more.0) (let e = length-append old.reached.found (step.edge.to ∷ []) in omega arith)
    ]

    pub growing_step : Contains edges step.edge → slice_get old.reached.found step.before ≡ Some step.edge.from → IsGrowing edges root number old → IsGrowing edges root number new
    growing_step held at g = record {
      steps = elim adds.1 [
        | inl same ↦ subst (λ fs. AreSteps edges root fs new.steps.items) (sym same.1) (subst (λ ss. AreSteps edges root old.reached.found ss) (sym same.2) g.steps)
        | inr more ↦ subst (λ fs. AreSteps edges root fs new.steps.items) (sym more.0)
            (subst (λ ss. AreSteps edges root (old.reached.found ++ step.edge.to ∷ []) ss) (sym more.1) (steps_more old.reached.found old.steps.items g.steps step held at))
      ];
      reached = λ q h. elim adds.1 [
        | inl same ↦ g.reached q (subst (λ fs. Contains fs q) same.1 h)
        | inr more ↦ elim (Contains-push_cases old.reached.found step.edge.to q (subst (λ fs. Contains fs q) more.0 h)) [
          | inl before ↦ g.reached q before
          | inr last ↦ subst (λ x. Leads edges root x) last
              (leads-append edges root step.edge.from step.edge.to
              (g.reached step.edge.from (Contains-from_slice_get old.reached.found step.before step.edge.from at)) (leads_edge edges step.edge held))
        ]
      ];
      root_found = keeps_node root g.root_found;
      followed = λ e h from. keeps_node e.to (g.followed e h (subst (λ fs. Contains fs e.from) (keeps_front g.number_within) from));
      number_within = keeps_length g.number_within;
    }

  -- all edges of the node with the number were followed
  pub growing_next : (number node : ℕ) (tree : Tree L) → slice_get tree.reached.found number ≡ Some node
      → ((e : Edge L) → Contains edges e → e.from ≡ node → Contains tree.reached.found e.to) → IsGrowing edges root number tree → IsGrowing edges root (number + 1) tree
  growing_next number node tree at all g = record {
    steps = g.steps;
    reached = g.reached;
    root_found = g.root_found;
    followed = λ e h from.
        elim (Contains-push_cases (take number tree.reached.found) node e.from (subst (λ fs. Contains fs e.from) (take_more-slice_get tree.reached.found number node at) from)) [
          | inl before ↦ g.followed e h before
          | inr same ↦ all e h (sym same)
        ];
    number_within = let l = slice_get_within tree.reached.found number node at in omega arith;
  }

  leads_found : (found : List ℕ) → ((e : Edge L) → Contains edges e → Contains found e.from → Contains found e.to) → (a b : ℕ) (p : List (Edge L)) → IsPath edges a p b → Contains found a → Contains found b
  leads_found found closed a b [] h in' = subst (λ x. Contains found x) h in'
  leads_found found closed a b (e ∷ p) (held, from, rest) in' =
      leads_found found closed e.to b p rest (closed e held (subst (λ x. Contains found x) (sym from) in'))

  pub growing_last : (number : ℕ) (tree : Tree L) → length tree.reached.found ≤ number → IsGrowing edges root number tree → IsTree edges root tree
  growing_last number tree past g =
      let found = tree.reached.found in
      let closed = λ (e : Edge L) (h : Contains edges e) (from : Contains found e.from). g.followed e h (subst (λ fs. Contains fs e.from) (sym (take_all number found past)) from) in
      record {
        steps = g.steps;
        nodes = λ q. (g.reached q, λ (p, h). leads_found found closed root q p h g.root_found);
      }

-- the way back to the root, in edges the other way round
module _ {L : Type 0} (edges rows : List (Edge L)) (are : AreReversed edges rows) (root : ℕ) (found : List ℕ) (steps : List (Option (Step L))) (s : AreSteps rows root found steps) where
  pub back_step : (at : ℕ) (step : Step L) → slice_get steps at ≡ Some (Some step) → (node q : ℕ) (word : List L) → slice_get found at ≡ Some q → Connects edges node word q
      → (slice_get found step.before ≡ Some step.edge.from) × Connects edges node (word ++ option_to_list step.edge.letter) step.edge.from
  back_step at step is node q word there way =
      let e : q ≡ step.edge.to = same_Some q step.edge.to (sym there ∙ s.to at step is) in (
        s.from at step is,
        connects-append edges node step.edge.to step.edge.from word (option_to_list step.edge.letter)
            (subst (λ x. Connects edges node word x) e way) (connects_edge edges (reversed step.edge) ((are step.edge).0 (s.held at step is))),
      )

  pub back_last : (at : ℕ) → slice_get steps at ≡ Some None → (node q : ℕ) (word : List L) → slice_get found at ≡ Some q → Connects edges node word q → Connects edges node word root
  back_last at is node q word there way = subst (λ x. Connects edges node word x) (same_Some q root (sym there ∙ s.rooted at is)) way

pub tree_leads : {L : Type 0} (edges rows : List (Edge L)) → AreReversed edges rows → (root : ℕ) (tree : Tree L) → IsTree rows root tree → (q : ℕ) → Leads edges q root → Contains tree.reached.found q
tree_leads edges rows are root tree t q (p, h) = (t.nodes q).1 (leads_turned rows edges (are_turned_back edges rows are) q root p h)

-- what is read at a place inside a list stands there
pub at_read : {X : Type 0} (xs : List X) (i : ℕ) (d x : X) → i < length xs → get_or xs i d ≡ x → slice_get xs i ≡ Some x
at_read xs i d x inside e = slice_get-get_or xs i d inside ∙ ap Some e
