-- A state takes over the edges of the states that it reaches, one after another.
use Rattle.std.proofs.Common.{◌≡◌, ℕ, ◌+◌, ◌<◌, ◌≤◌, ◌⊎◌, ◌↔◌, List, [], ◌∷◌, ◌++◌, Bool, true, false, Option, Some, None, length, get_or, set, take, replicate, refl, subst, sym, ap, inl, inr, ◌∙◌}
use Rattle.std.specs.List.{Contains, slice_get}
use Rattle.std.proofs.lemmas.Bool.{cases_eq, false≢true}
use Rattle.std.proofs.lemmas.List.{take_more, take_all, length-set, length-replicate}
use Rattle.std.proofs.lemmas.List.Elements.{Contains-push_cases, Contains-push, Contains-append_left}
use Rattle.word_relations.proofs.Members.{Contains-nil_cases}
use Rattle.word_relations.proofs.Places.{slice_get-set_same, slice_get-set_other}
use Rattle.fsa.specs.Automaton.{Automaton, IsFinal}
use Rattle.fsa.specs.declared.automaton.Edge.{Edge}
use Rattle.fsa.proofs.Arcs.{edge_same}
use Rattle.std.specs.Option.{is_some}
use Rattle.fsa_explore.specs.Reaches.{Reaches, IsReached, here}
use Rattle.fsa_explore.specs.Marks.{Marks, Adds}
use Rattle.fsa_explore.proofs.Added.{Grows-keeps}
use Rattle.fsa_rational.proofs.Extended.{Extends-push, Extends-same}
use Rattle.fsa_rational.specs.Shapes.{Extends, ForEach, IsLettered}
use Rattle.fsa_rational.specs.Bypass.{TakesOver, LeavesOne, HasFinal, IsBypassed}
use Rattle.fsa_rational.proofs.Walks.{unmarked_states}

-- the list's front with one more
pub more_held : {X : Type 0} (xs : List X) (i : ℕ) (x : X) → i < length xs → x ≡ get_or xs i x → (k : X) → Contains (take i xs) k → Contains (take (i + 1) xs) k
more_held xs i x within at k h =
    let front : take (i + 1) xs ≡ take i xs ++ x ∷ [] = take_more xs i x within ∙ ap (λ y. take i xs ++ y ∷ []) (sym at) in
    subst (λ ys. Contains ys k) (sym front) (Contains-append_left (take i xs) (x ∷ []) k h)

pub last_held : {X : Type 0} (xs : List X) (i : ℕ) (x : X) → i < length xs → x ≡ get_or xs i x → Contains (take (i + 1) xs) x
last_held xs i x within at =
    let front : take (i + 1) xs ≡ take i xs ++ x ∷ [] = take_more xs i x within ∙ ap (λ y. take i xs ++ y ∷ []) (sym at) in
    subst (λ ys. Contains ys x) (sym front) (Contains-push (take i xs) x)

pub held_cases : {X : Type 0} (xs : List X) (i : ℕ) (x : X) → i < length xs → x ≡ get_or xs i x → (k : X) → Contains (take (i + 1) xs) k → Contains (take i xs) k ⊎ (x ≡ k)
held_cases xs i x within at k h =
    let front : take (i + 1) xs ≡ take i xs ++ x ∷ [] = take_more xs i x within ∙ ap (λ y. take i xs ++ y ∷ []) (sym at) in
    Contains-push_cases (take i xs) x k (subst (λ ys. Contains ys k) front h)

-- the state became final if the source is final
pub record FollowsFinal {L : Type 0} (finals : List Bool) (state source : ℕ) (now mid : Automaton L) : Type 0 where
  pub states : length mid.finals ≡ length now.finals
  pub edges : mid.edges ≡ now.edges
  pub final : (k : ℕ) → IsFinal mid k ↔ (IsFinal now k ⊎ ((k ≡ state) × (slice_get finals source ≡ Some true)))

pub follows_final : {L : Type 0} (finals : List Bool) (state source : ℕ) (now mid : Automaton L) → state < length now.finals → slice_get finals source ≡ Some true → mid ≡ record now { finals = set now.finals state true } → FollowsFinal finals state source now mid
follows_final {L} finals state source now mid within is_final is =
    subst (λ a. FollowsFinal finals state source now a) (sym is) (record {
      states = length-set now.finals state true;
      edges = refl;
      final = λ k. (
        λ h. elim (cases_eq k state) [ inl same ↦ inr (same, is_final) | inr other ↦ inl (sym (slice_get-set_other now.finals state k true other) ∙ h) ],
        λ s. elim (cases_eq k state) [
          | inl same ↦ subst (λ j. slice_get (set now.finals state true) j ≡ Some true) (sym same) (slice_get-set_same now.finals state true within)
          | inr other ↦ elim s [ inl h ↦ slice_get-set_other now.finals state k true other ∙ h | inr r ↦ absurd (other r.0) ]
        ],
      );
    })

pub follows_other : {L : Type 0} (finals : List Bool) (state source : ℕ) (now : Automaton L) → (slice_get finals source ≡ Some true → ⊥) → FollowsFinal finals state source now now
follows_other finals state source now other = record {
  states = refl;
  edges = refl;
  final = λ k. (λ h. inl h, λ s. elim s [ inl h ↦ h | inr r ↦ absurd (other r.1) ]);
}

module _ {L : Type 0} (edges : List (Edge L)) (finals : List Bool) (state : ℕ) (reached : List ℕ) where
  pub takes_none : (m : Automaton L) → TakesOver edges finals state (Contains (take 0 reached)) m m
  takes_none m = record {
    states = refl;
    final = λ k. (λ h. inl h, λ s. elim s [ inl h ↦ h | inr r ↦ absurd (Contains-nil_cases r.1.0 r.1.1) ]);
    edge = λ e. (λ h. inl h, λ s. elim s [ inl h ↦ h | inr r ↦ absurd (Contains-nil_cases r.1.0 r.1.2) ]);
  }

  pub takes_all : (i : ℕ) (old new : Automaton L) → length reached ≤ i → TakesOver edges finals state (Contains (take i reached)) old new → TakesOver edges finals state (Contains reached) old new
  takes_all i old new past h = subst (λ qs. TakesOver edges finals state (Contains qs) old new) (take_all i reached past) h

  module _ (i source : ℕ) (within : i < length reached) (at : source ≡ get_or reached i source) (old now mid new : Automaton L) (out : List (Edge L))
      (before : TakesOver edges finals state (Contains (take i reached)) old now) (follows : FollowsFinal finals state source now mid)
      (leaving : (e : Edge L) → Contains out e ↔ (Contains edges e × (e.from ≡ source))) (added : Extends mid new (ForEach (IsLettered state) out)) where
    final_more : (k : ℕ) → IsFinal new k → IsFinal old k ⊎ ((k ≡ state) × HasFinal finals (Contains (take (i + 1) reached)))
    final_more k h = elim ((follows.final k).0 (subst (λ fs. slice_get fs k ≡ Some true) added.finals h)) [
      | inl held ↦ elim ((before.final k).0 held) [
        | inl older ↦ inl older
        | inr r ↦ inr (r.0, (r.1.0, more_held reached i source within at r.1.0 r.1.1, r.1.2))
      ]
      | inr r ↦ inr (r.0, (source, last_held reached i source within at, r.1))
    ]

    final_back : (k : ℕ) → IsFinal old k ⊎ ((k ≡ state) × HasFinal finals (Contains (take (i + 1) reached))) → IsFinal new k
    final_back k s =
        let later : IsFinal now k ⊎ ((k ≡ state) × (slice_get finals source ≡ Some true)) =
        elim s [
          | inl h ↦ inl ((before.final k).1 (inl h))
          | inr r ↦ elim (held_cases reached i source within at r.1.0 r.1.1) [
            | inl held ↦ inl ((before.final k).1 (inr (r.0, (r.1.0, held, r.1.2))))
            | inr same ↦ inr (r.0, subst (λ q. slice_get finals q ≡ Some true) (sym same) r.1.2)
          ]
        ] in
        subst (λ fs. slice_get fs k ≡ Some true) (sym added.finals) ((follows.final k).1 later)

    edge_more : (e : Edge L) → Contains new.edges e → Contains old.edges e ⊎ ((e.from ≡ state) × LeavesOne edges (Contains (take (i + 1) reached)) e)
    edge_more e h = elim (added.only e h) [
      | inl held ↦ elim ((before.edge e).0 (subst (λ es. Contains es e) follows.edges held)) [
        | inl older ↦ inl older
        | inr r ↦ inr (r.0, (r.1.0, r.1.1, more_held reached i source within at r.1.0 r.1.2, r.1.3, r.1.4))
      ]
      | inr r ↦
          let o : Edge L = r.0 in
          let x : L = r.2.0 in
          let there = (leaving o).0 r.1 in
          let P : ℕ → Option L → ℕ → Type 0 = λ p l q. Contains edges (record { from = p; letter = l; to = q }) in
          let moved : P source (Some x) e.to =
          subst (λ q. P source (Some x) q) (sym (ap (λ y. y.to) r.2.2)) (subst (λ l. P source l o.to) r.2.1 (subst (λ p. P p o.letter o.to) there.1 there.0)) in
          inr (ap (λ y. y.from) r.2.2, (source, x, last_held reached i source within at, ap (λ y. y.letter) r.2.2, moved))
    ]

    edge_back : (e : Edge L) → Contains old.edges e ⊎ ((e.from ≡ state) × LeavesOne edges (Contains (take (i + 1) reached)) e) → Contains new.edges e
    edge_back e s = elim s [
      | inl h ↦ added.kept e (subst (λ es. Contains es e) (sym follows.edges) ((before.edge e).1 (inl h)))
      | inr r ↦
          let q : ℕ = r.1.0 in
          let x : L = r.1.1 in
          elim (held_cases reached i source within at q r.1.2) [
            | inl held ↦ added.kept e (subst (λ es. Contains es e) (sym follows.edges) ((before.edge e).1 (inr (r.0, (q, x, held, r.1.3, r.1.4)))))
            | inr same ↦
                let o : Edge L = record { from = source; letter = Some x; to = e.to } in
                let held : Contains edges o = subst (λ p. Contains edges (record { from = p; letter = Some x; to = e.to })) (sym same) r.1.4 in
                let is : e ≡ record { from = state; letter = Some x; to = e.to } = edge_same e (record { from = state; letter = Some x; to = e.to }) r.0 r.1.3 refl in
                added.all e (o, (leaving o).1 (held, refl), (x, refl, is))
          ]
    ]

    pub takes_more : TakesOver edges finals state (Contains (take (i + 1) reached)) old new
    takes_more = record {
      states = ap length added.finals ∙ follows.states ∙ before.states;
      final = λ k. (final_more k, final_back k);
      edge = λ e. (edge_more e, edge_back e);
    }

module _ {L : Type 0} (edges : List (Edge L)) (finals : List Bool) (found : List ℕ) where
  pub bypassed_none : (m : Automaton L) → m.edges ≡ [] → m.finals ≡ replicate (length finals) false → IsBypassed edges finals (Contains (take 0 found)) m
  bypassed_none m none unmarked = record {
    states = ap length unmarked ∙ length-replicate (length finals) false;
    final = λ k. (
      λ h. absurd (unmarked_states (length finals) k (subst (λ fs. slice_get fs k ≡ Some true) unmarked h)),
      λ r. absurd (Contains-nil_cases k r.0),
    );
    edge = λ e. (λ h. absurd (Contains-nil_cases e (subst (λ es. Contains es e) none h)), λ r. absurd (Contains-nil_cases e.from r.0));
  }

  pub bypassed_all : (i : ℕ) (m : Automaton L) → length found ≤ i → IsBypassed edges finals (Contains (take i found)) m → IsBypassed edges finals (Contains found) m
  bypassed_all i m past h = subst (λ qs. IsBypassed edges finals (Contains qs) m) (take_all i found past) h

  pub bypassed_more : (i state : ℕ) → i < length found → state ≡ get_or found i state → (reached : List ℕ) → ((q : ℕ) → Contains reached q ↔ Reaches edges state q) → (now new : Automaton L) → IsBypassed edges finals (Contains (take i found)) now → TakesOver edges finals state (Contains reached) now new → IsBypassed edges finals (Contains (take (i + 1) found)) new
  bypassed_more i state within at reached is_reached now new before takes = record {
    states = takes.states ∙ before.states;
    final = λ k. (
      λ h. elim ((takes.final k).0 h) [
        | inl held ↦ let r = (before.final k).0 held in (more_held found i state within at k r.0, r.1)
        | inr r ↦ (
          subst (λ j. Contains (take (i + 1) found) j) (sym r.0) (last_held found i state within at),
          (r.1.0, subst (λ j. Reaches edges j r.1.0) (sym r.0) ((is_reached r.1.0).0 r.1.1), r.1.2),
        )
      ],
      λ r. (takes.final k).1 (elim (held_cases found i state within at k r.0) [
        | inl held ↦ inl ((before.final k).1 (held, r.1))
        | inr same ↦ inr (sym same, (r.1.0, (is_reached r.1.0).1 (subst (λ j. Reaches edges j r.1.0) (sym same) r.1.1), r.1.2))
      ]),
    );
    edge = λ e. (
      λ h. elim ((takes.edge e).0 h) [
        | inl held ↦ let r = (before.edge e).0 held in (more_held found i state within at e.from r.0, r.1)
        | inr r ↦ (
          subst (λ j. Contains (take (i + 1) found) j) (sym r.0) (last_held found i state within at),
          (r.1.0, r.1.1, subst (λ j. Reaches edges j r.1.0) (sym r.0) ((is_reached r.1.0).0 r.1.2), r.1.3, r.1.4),
        )
      ],
      λ r. (takes.edge e).1 (elim (held_cases found i state within at e.from r.0) [
        | inl held ↦ inl ((before.edge e).1 (held, r.1))
        | inr same ↦ inr (sym same, (r.1.0, r.1.1, (is_reached r.1.0).1 (subst (λ j. Reaches edges j r.1.0) (sym same) r.1.2), r.1.3, r.1.4))
      ]),
    );
  }

pub some_letter : {L : Type 0} (letter : Option L) → is_some letter ≡ true → (x : L) × (letter ≡ Some x)
some_letter (Some x) e = (x, refl)
some_letter None e = absurd (false≢true e)

pub no_letter : {L : Type 0} (letter : Option L) → is_some letter ≡ false → (x : L) → letter ≡ Some x → ⊥
no_letter letter none x is = false≢true (sym none ∙ ap is_some is)

-- the edge that is added for one with a letter
pub lettered_push : {L : Type 0} (from : ℕ) (e : Edge L) (now new : Automaton L) → is_some e.letter ≡ true → new ≡ record now { edges = now.edges ++ record { from = from; letter = e.letter; to = e.to } ∷ [] } → Extends now new (IsLettered from e)
lettered_push {L} from e now new some is =
    let x = some_letter e.letter some in
    let added : Option L → Edge L = λ letter. record { from = from; letter = letter; to = e.to } in
    Extends-same now new (λ f. f ≡ added e.letter) (IsLettered from e)
    (λ f same. (x.0, x.1, same ∙ ap added x.1))
    (λ f r. r.2 ∙ ap added (sym r.1))
    (Extends-push now new (added e.letter) is)

-- the states that a letter enters, one edge more
module _ {L : Type 0} (edges : List (Edge L)) (i : ℕ) (e : Edge L) (within : i < length edges) (at : e ≡ get_or edges i e) (now : Marks)
    (before : (f : Edge L) (x : L) → Contains (take i edges) f → f.letter ≡ Some x → Contains now.found f.to) where
  pub entered_more : (new : Marks) → Adds now new (λ k. k ≡ e.to) → (f : Edge L) (x : L) → Contains (take (i + 1) edges) f → f.letter ≡ Some x → Contains new.found f.to
  entered_more new adds f x h reads = elim (held_cases edges i e within at f h) [
    | inl held ↦ Grows-keeps now new (λ k. k ≡ e.to) adds.grows f.to (before f x held reads)
    | inr same ↦ adds.all f.to (ap (λ g. g.to) (sym same))
  ]

  pub entered_past : is_some e.letter ≡ false → (f : Edge L) (x : L) → Contains (take (i + 1) edges) f → f.letter ≡ Some x → Contains now.found f.to
  entered_past none f x h reads = elim (held_cases edges i e within at f h) [
    | inl held ↦ before f x held reads
    | inr same ↦ absurd (no_letter e.letter none x (ap (λ g. g.letter) same ∙ reads))
  ]

-- what is reached from a state alone
pub reached_from : {L : Type 0} (edges : List (Edge L)) (state : ℕ) (empty one all : Marks) → empty.found ≡ [] → Adds empty one (λ k. k ≡ state) → Adds one all (IsReached edges one.found) → (q : ℕ) → Contains all.found q ↔ Reaches edges state q
reached_from edges state empty one all none first rest q =
    let only : (k : ℕ) → Contains one.found k → k ≡ state =
    λ k h. elim (first.grows.only k h) [ inl h0 ↦ absurd (Contains-nil_cases k (subst (λ ks. Contains ks k) none h0)) | inr is ↦ is ] in (
      λ h. elim (rest.grows.only q h) [
        | inl held ↦ subst (λ k. Reaches edges k q) (only q held) here
        | inr r ↦ subst (λ k. Reaches edges k q) (only r.0 r.1) r.2
      ],
      λ h. rest.all q (state, first.all state refl, h),
    )
