-- Edges that are added, one call after another.
use Rattle.std.proofs.Common.{◌≡◌, ℕ, ◌+◌, ◌<◌, ◌≤◌, ◌⊎◌, List, [], ◌∷◌, ◌++◌, Bool, true, false, Some, length, get_or, take, refl, subst, sym, ap, inl, inr, arith, ◌∙◌}
use Rattle.std.specs.List.{Contains, slice_get}
use Rattle.std.proofs.lemmas.Bool.{cases_lt}
use Rattle.std.proofs.lemmas.Option.{slice_get_within}
use Rattle.std.proofs.lemmas.List.{take_more, take_all}
use Rattle.std.proofs.lemmas.List.Elements.{Contains-push_cases, Contains-push, Contains-append_left}
use Rattle.word_relations.proofs.Members.{Contains-nil_cases}
use Rattle.word_relations.proofs.Places.{same_at}
use Rattle.fsa.specs.Automaton.{Automaton}
use Rattle.fsa.specs.declared.automaton.Edge.{Edge}
use Rattle.fsa_rational.specs.Shapes.{Extends, ForEach, ComesFrom, LoopsBelow, loop_at}

module _ {L : Type 0} where
  pub Extends-none : (m : Automaton L) (P : Edge L → Type 0) → ((e : Edge L) → P e → ⊥) → Extends m m P
  Extends-none m P never = record { finals = refl; kept = λ e h. h; only = λ e h. inl h; all = λ e p. absurd (never e p) }

  pub Extends-push : (old new : Automaton L) (x : Edge L) → new ≡ record old { edges = old.edges ++ x ∷ [] } → Extends old new (λ e. e ≡ x)
  Extends-push old new x is =
      let edges : new.edges ≡ old.edges ++ x ∷ [] = ap (λ m. m.edges) is in
      record {
        finals = ap (λ m. m.finals) is;
        kept = λ e h. subst (λ es. Contains es e) (sym edges) (Contains-append_left old.edges (x ∷ []) e h);
        only = λ e h. elim (Contains-push_cases old.edges x e (subst (λ es. Contains es e) edges h)) [ inl held ↦ inl held | inr same ↦ inr (sym same) ];
        all = λ e same. subst (λ y. Contains new.edges y) (sym same) (subst (λ es. Contains es x) (sym edges) (Contains-push old.edges x));
      }

  pub Extends-then : (a b c : Automaton L) (P Q R : Edge L → Type 0) → ((e : Edge L) → R e → P e ⊎ Q e) → ((e : Edge L) → P e → R e) → ((e : Edge L) → Q e → R e) → Extends a b P → Extends b c Q → Extends a c R
  Extends-then a b c P Q R split f g first second = record {
    finals = second.finals ∙ first.finals;
    kept = λ e h. second.kept e (first.kept e h);
    only = λ e h. elim (second.only e h) [
      | inl held ↦ elim (first.only e held) [ inl older ↦ inl older | inr p ↦ inr (f e p) ]
      | inr q ↦ inr (g e q)
    ];
    all = λ e r. elim (split e r) [ inl p ↦ second.kept e (first.all e p) | inr q ↦ second.all e q ];
  }

  pub Extends-same : (a b : Automaton L) (P Q : Edge L → Type 0) → ((e : Edge L) → P e → Q e) → ((e : Edge L) → Q e → P e) → Extends a b P → Extends a b Q
  Extends-same a b P Q f g h = record {
    finals = h.finals;
    kept = h.kept;
    only = λ e c. elim (h.only e c) [ inl held ↦ inl held | inr p ↦ inr (f e p) ];
    all = λ e q. h.all e (g e q);
  }

-- edges that are added for the items of a list, one by one
module _ {X L : Type 0} (P : X → Edge L → Type 0) (items : List X) where
  pub each_none : (m : Automaton L) → Extends m m (ForEach P (take 0 items))
  each_none m = Extends-none m (ForEach P (take 0 items)) (λ e r. Contains-nil_cases r.0 r.1)

  pub each_more : (i : ℕ) (x : X) → i < length items → x ≡ get_or items i x → (old now new : Automaton L) → Extends old now (ForEach P (take i items)) → Extends now new (P x) → Extends old new (ForEach P (take (i + 1) items))
  each_more i x within at old now new before step =
      let front : take (i + 1) items ≡ take i items ++ x ∷ [] = take_more items i x within ∙ ap (λ y. take i items ++ y ∷ []) (sym at) in
      Extends-then old now new (ForEach P (take i items)) (P x) (ForEach P (take (i + 1) items))
      (λ e r. elim (Contains-push_cases (take i items) x r.0 (subst (λ ys. Contains ys r.0) front r.1)) [
        | inl held ↦ inl (r.0, held, r.2)
        | inr same ↦ inr (subst (λ y. P y e) (sym same) r.2)
      ])
      (λ e r. (r.0, subst (λ ys. Contains ys r.0) (sym front) (Contains-append_left (take i items) (x ∷ []) r.0 r.1), r.2))
      (λ e p. (x, subst (λ ys. Contains ys x) (sym front) (Contains-push (take i items) x), p))
      before step

  -- an item for which nothing is to be added
  pub each_past : (i : ℕ) (x : X) → i < length items → x ≡ get_or items i x → (old now : Automaton L) → ((e : Edge L) → P x e → ⊥) → Extends old now (ForEach P (take i items)) → Extends old now (ForEach P (take (i + 1) items))
  each_past i x within at old now never before = each_more i x within at old now now before (Extends-none now (P x) never)

  pub each_all : (i : ℕ) (old now : Automaton L) → length items ≤ i → Extends old now (ForEach P (take i items)) → Extends old now (ForEach P items)
  each_all i old now past h = subst (λ ys. Extends old now (ForEach P ys)) (take_all i items past) h

module _ {X L : Type 0} (change : X → Edge L) (items : List X) where
  pub comes_more : (i : ℕ) (x : X) → i < length items → x ≡ get_or items i x → (old now new : Automaton L) → Extends old now (ComesFrom change (take i items)) → new ≡ record now { edges = now.edges ++ change x ∷ [] } → Extends old new (ComesFrom change (take (i + 1) items))
  comes_more i x within at old now new before is =
      each_more (λ y e. e ≡ change y) items i x within at old now new before (Extends-push now new (change x) is)

-- an edge for each final state, state by state
abbrev pub ForFinal : {L : Type 0} → (ℕ → Edge L) → List Bool → ℕ → Edge L → Type 0
ForFinal edge finals upto e = (q : ℕ) × (q < upto) × (slice_get finals q ≡ Some true) × (e ≡ edge q)

module _ {L : Type 0} (edge : ℕ → Edge L) (finals : List Bool) where
  pub finals_none : (m : Automaton L) → Extends m m (ForFinal edge finals 0)
  finals_none m = Extends-none m (ForFinal edge finals 0) (λ e r. let l = r.1 in omega arith)

  last_or_before : (i q : ℕ) → q < i + 1 → (q < i) ⊎ (q ≡ i)
  last_or_before i q l = elim (cases_lt q i) [ inl b ↦ inl b | inr g ↦ inr (omega arith) ]

  pub finals_more : (i : ℕ) (old now new : Automaton L) → slice_get finals i ≡ Some true → Extends old now (ForFinal edge finals i) → Extends now new (λ e. e ≡ edge i) → Extends old new (ForFinal edge finals (i + 1))
  finals_more i old now new is_final before step =
      Extends-then old now new (ForFinal edge finals i) (λ e. e ≡ edge i) (ForFinal edge finals (i + 1))
      (λ e r. elim (last_or_before i r.0 r.1) [ inl b ↦ inl (r.0, b, r.2, r.3) | inr same ↦ inr (r.3 ∙ ap edge same) ])
      (λ e r. let l = r.1 in (r.0, omega arith, r.2, r.3))
      (λ e same. (i, omega arith, is_final, same))
      before step

  pub finals_past : (i : ℕ) (old now : Automaton L) → slice_get finals i ≡ Some false → Extends old now (ForFinal edge finals i) → Extends old now (ForFinal edge finals (i + 1))
  finals_past i old now other h =
      Extends-same old now (ForFinal edge finals i) (ForFinal edge finals (i + 1))
      (λ e r. let l = r.1 in (r.0, omega arith, r.2, r.3))
      (λ e r. elim (last_or_before i r.0 r.1) [
        | inl b ↦ (r.0, b, r.2, r.3)
        | inr same ↦
            let clash : true ≡ false = same_at finals i true false (subst (λ k. slice_get finals k ≡ Some true) same r.2) other in
            absurd (cc)
      ])
      h

  pub finals_all : (i : ℕ) (old now : Automaton L) → length finals ≤ i → Extends old now (ForFinal edge finals i) → Extends old now (λ e. (q : ℕ) × (slice_get finals q ≡ Some true) × (e ≡ edge q))
  finals_all i old now past h =
      Extends-same old now (ForFinal edge finals i) (λ e. (q : ℕ) × (slice_get finals q ≡ Some true) × (e ≡ edge q))
      (λ e r. (r.0, r.2, r.3))
      (λ e r. let l = slice_get_within finals r.0 true r.1 in (r.0, omega arith, r.1, r.2))
      h

-- an edge from each state to itself for each letter, state by state
module _ {L : Type 0} (letters : List L) where
  pub loops_none : (m : Automaton L) → Extends m m (LoopsBelow 0 letters)
  loops_none m = Extends-none m (LoopsBelow 0 letters) (λ e r. let l = r.1 in omega arith)

  pub loops_more : (i : ℕ) (old now new : Automaton L) → Extends old now (LoopsBelow i letters) → Extends now new (ComesFrom (loop_at i) letters) → Extends old new (LoopsBelow (i + 1) letters)
  loops_more i old now new before step =
      Extends-then old now new (LoopsBelow i letters) (ComesFrom (loop_at i) letters) (LoopsBelow (i + 1) letters)
      (λ e r. elim (cases_lt r.0 i) [
        | inl b ↦ inl (r.0, b, r.2)
        | inr g ↦ let l = r.1 in let same : r.0 ≡ i = omega arith in inr (subst (λ k. ComesFrom (loop_at k) letters e) same r.2)
      ])
      (λ e r. let l = r.1 in (r.0, omega arith, r.2))
      (λ e r. (i, omega arith, r))
      before step
