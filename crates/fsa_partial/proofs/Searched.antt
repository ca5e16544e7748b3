-- What a search finds, forwards from the start and backwards from the final states, and what is minimal then.
use Rattle.std.proofs.Common.{◌≡◌, ◌≢◌, ℕ, ◌<◌, ◌⊎◌, List, [], ◌∷◌, ◌++◌, Option, None, Some, length, map, refl, sym, subst, ap, inl, inr, zero, suc, arith, ◌∙◌}
use Rattle.std.specs.Prelude.{Vec}
use Rattle.std.specs.Global.{Global}
use Rattle.std.specs.List.{slice_get, Contains}
use Rattle.std.specs.List.Sorted.{IsPermutation}
use Rattle.std.specs.Option.{option_map}
use Rattle.std.proofs.lemmas.Option.{slice_get-map, same_Some}
use Rattle.word_relations.specs.Words.{IsDistinct}
use Rattle.word_relations.proofs.Members.{Contains-map_cases, Contains-nil_cases, Contains-cons_cases}
use Rattle.word_relations.proofs.Places.{slice_get_from_Contains, same_at, Contains-from_slice_get}
use Rattle.fsa.specs.Automaton.{Automaton, IsWellFormed, IsFinal, HasNoEpsilonEdge}
use Rattle.fsa.specs.Language.{AcceptsFrom, stop, read, skip}
use Rattle.fsa.specs.declared.automaton.Edge.{Edge}
use Rattle.fsa_explore.specs.Marks.{Marks, Grows}
use Rattle.fsa_explore.specs.Reaches.{Reaches, IsReached, here, along}
use Rattle.fsa_rational.proofs.Walks.{same_elements}
use Rattle.fsa_partial.specs.declared.grouping.Arc.{Arc}
use Rattle.fsa_partial.specs.Groups.{AreGroups, LeaveApart}
use Rattle.fsa_partial.specs.Minimal.{IsDeterministic, IsMinimal, AreApart, Leads}
use Rattle.fsa_partial.specs.Search.{bare, turned}
use Rattle.fsa_partial.specs.Splitting.{AreLive, ClassesAreApart}
use Rattle.fsa_partial.proofs.Fewest.{leads_more, at_start}

pub edge_at : {L : Type 0} (edges : List (Edge L)) (e : Edge L) (p q : ℕ) (o : Option L) → Contains edges e → e.from ≡ p → e.letter ≡ o → e.to ≡ q → Contains edges (record { from = p; letter = o; to = q })
edge_at {L} edges e p q o held from letter to =
    let at : ℕ → Option L → ℕ → Type 0 = λ a b c. Contains edges (record { from = a; letter = b; to = c }) in
    subst (λ a. at a o q) from (subst (λ b. at e.from b q) letter (subst (λ c. at e.from e.letter c) to held))

-- forwards
module _ {L : Type 0} (m : Automaton L) (rows : List (Edge L)) (perm : IsPermutation (map bare m.edges) rows) where
  bare_edge : (p q : ℕ) → Contains rows (record { from = p; letter = None; to = q }) → (o : Option L) × Contains m.edges (record { from = p; letter = o; to = q })
  bare_edge p q h =
      let e : Edge L = record { from = p; letter = None; to = q } in
      let r = Contains-map_cases bare m.edges e ((same_elements (map bare m.edges) rows perm e).0 h) in
      let d : Edge L = r.0 in
      (d.letter, edge_at m.edges d p q d.letter r.1 (ap (λ (f : Edge L). f.from) r.2) refl (ap (λ (f : Edge L). f.to) r.2))

  pub bare_within : IsWellFormed m → (bound : ℕ) → bound ≡ length m.finals → (e : Edge L) → Contains rows e → e.to < bound
  bare_within ok bound same e h =
      let r = Contains-map_cases bare m.edges e ((same_elements (map bare m.edges) rows perm e).0 h) in
      subst (λ k. k < bound) (ap (λ (f : Edge L). f.to) r.2) (subst (λ n. (r.0).to < n) (sym same) (ok.within r.0 r.1).1)

  module _ (no : HasNoEpsilonEdge m) where
    follow : {p q : ℕ} → Reaches rows p q → (w : List L) → Leads m 0 w p → (v : List L) × Leads m 0 v q
    follow here w l = (w, l)
    follow {p} (along {q = q} h rest) w l =
        let b = bare_edge p q h in
        let x = no (record { from = p; letter = b.0; to = q }) b.1 in
        follow rest (w ++ x.0 ∷ []) (leads_more m x.0 (subst (λ o. Contains m.edges (record { from = p; letter = o; to = q })) x.1 b.1) l)

    pub led : (start found : Marks) → start.found ≡ 0 ∷ [] → Grows start found (IsReached rows start.found) → (s : ℕ) → Contains found.found s → (w : List L) × Leads m 0 w s
    led start found is grows s h = elim (grows.only s h) [
      | inl first ↦ ([], at_start m s (zero_of s first))
      | inr (p, first, way) ↦ follow way [] (at_start m p (zero_of p first))
    ]
      where
        zero_of : (k : ℕ) → Contains start.found k → 0 ≡ k
        zero_of k first = elim (Contains-cons_cases 0 [] k (subst (λ xs. Contains xs k) is first)) [ inl e ↦ e | inr none ↦ absurd (Contains-nil_cases k none) ]

-- backwards
module _ {L : Type 0} (m : Automaton L) (rows : List (Edge L)) (perm : IsPermutation (map turned m.edges) rows) where
  turned_edge : (p q : ℕ) → Contains rows (record { from = p; letter = None; to = q }) → (o : Option L) × Contains m.edges (record { from = q; letter = o; to = p })
  turned_edge p q h =
      let e : Edge L = record { from = p; letter = None; to = q } in
      let r = Contains-map_cases turned m.edges e ((same_elements (map turned m.edges) rows perm e).0 h) in
      let d : Edge L = r.0 in
      (d.letter, edge_at m.edges d q p d.letter r.1 (ap (λ (f : Edge L). f.to) r.2) refl (ap (λ (f : Edge L). f.from) r.2))

  pub turned_within : IsWellFormed m → (bound : ℕ) → bound ≡ length m.finals → (e : Edge L) → Contains rows e → e.to < bound
  turned_within ok bound same e h =
      let r = Contains-map_cases turned m.edges e ((same_elements (map turned m.edges) rows perm e).0 h) in
      subst (λ k. k < bound) (ap (λ (f : Edge L). f.to) r.2) (subst (λ n. (r.0).from < n) (sym same) (ok.within r.0 r.1).0)

  step_back : (p q : ℕ) (w : List L) (o : Option L) → Contains m.edges (record { from = q; letter = o; to = p }) → AcceptsFrom m p w → (v : List L) × AcceptsFrom m q v
  step_back p q w None h a = (w, skip h a)
  step_back p q w (Some x) h a = (x ∷ w, read h a)

  follow_back : {p q : ℕ} → Reaches rows p q → (w : List L) → AcceptsFrom m p w → (v : List L) × AcceptsFrom m q v
  follow_back here w a = (w, a)
  follow_back {p} (along {q = q} h rest) w a =
      let b = turned_edge p q h in
      let s = step_back p q w b.0 b.1 a in
      follow_back rest s.0 s.1

  pub leads : (none start found : Marks) → none.found ≡ [] → Grows none start (IsFinal m) → Grows start found (IsReached rows start.found) → (s : ℕ) → Contains found.found s → (w : List L) × AcceptsFrom m s w
  leads none start found is first grows s h = elim (grows.only s h) [
    | inl one ↦ ([], final s one)
    | inr (p, one, way) ↦ follow_back way [] (final p one)
  ]
    where
      final : (k : ℕ) → Contains start.found k → AcceptsFrom m k []
      final k one = elim (first.only k one) [ inl old ↦ absurd (Contains-nil_cases k (subst (λ xs. Contains xs k) is old)) | inr f ↦ stop f ]

-- edges that leave different states
pub leave_apart_of : (arcs : List Arc) → IsDistinct (map (λ (a : Arc). a.from) arcs) → LeaveApart arcs
leave_apart_of arcs distinct a b in_a in_b e =
    let i = slice_get_from_Contains arcs a in_a in
    let j = slice_get_from_Contains arcs b in_b in
    let at : (k : ℕ) (c : Arc) → slice_get arcs k ≡ Some c → slice_get (map (λ (a : Arc). a.from) arcs) k ≡ Some c.from = λ k c is. slice_get-map (λ (a : Arc). a.from) arcs k ∙ ap (option_map (λ (a : Arc). a.from)) is in
    let same : i.0 ≡ j.0 = distinct i.0 j.0 a.from (at i.0 a i.1) (at j.0 b j.1 ∙ ap Some (sym e)) in
    same_at arcs j.0 a b (subst (λ k. slice_get arcs k ≡ Some a) same i.1) j.1

pub deterministic_of : {L : Type 0} (m : Automaton L) (groups : List (Vec Arc Global)) → AreGroups m.edges groups → ((arcs : Vec Arc Global) → Contains groups arcs → LeaveApart arcs.items) → IsDeterministic m
deterministic_of m groups are apart = record {
  no_epsilon = λ e h. let r = are.all e h in (r.0, r.1);
  one_target = λ s t u x to_t to_u.
      let (y, is, (k, (arcs, at, group))) = are.all (record { from = s; letter = Some x; to = t }) to_t in
      let same : x ≡ y = same_Some x y is in
      let in_t = (group s t).1 (subst (λ z. Contains m.edges (record { from = s; letter = Some z; to = t })) same to_t) in
      let in_u = (group s u).1 (subst (λ z. Contains m.edges (record { from = s; letter = Some z; to = u })) same to_u) in
      ap (λ (a : Arc). a.to) (apart arcs (Contains-from_slice_get groups k arcs at) (record { from = s; to = t }) (record { from = s; to = u }) in_t in_u refl);
}

-- classes of one state each
pub all_apart : {L : Type 0} (m : Automaton L) (classes : List ℕ) → length classes ≡ length m.finals → IsDistinct classes → ClassesAreApart m classes → (s t : ℕ) → s < length m.finals → t < length m.finals → s ≢ t → AreApart m s t
all_apart m classes count distinct apart s t there_s there_t ne =
    apart s t there_s there_t (λ e. let x = place classes s (omega arith) in ne (distinct s t x.0 x.1 (sym e ∙ x.1)))
  where
    place : (xs : List ℕ) (k : ℕ) → k < length xs → (x : ℕ) × (slice_get xs k ≡ Some x)
    place [] k l = absurd (omega arith)
    place (x ∷ xs) zero l = (x, refl)
    place (x ∷ xs) (suc k) l = place xs k (omega arith)

pub minimal_of : {L : Type 0} (m : Automaton L) → IsDeterministic m → ((s : ℕ) → s < length m.finals → (w : List L) × Leads m 0 w s) → ((length m.finals ≡ 1) ⊎ AreLive m)
    → (AreLive m → (s t : ℕ) → s < length m.finals → t < length m.finals → s ≢ t → AreApart m s t) → IsMinimal m
minimal_of m ok reached way apart = record {
  deterministic = ok;
  reached = reached;
  leads_on = λ s l ne. elim way [ inl one ↦ absurd (alone one s l ne) | inr live ↦ live s l ];
  apart = λ s t there_s there_t ne. elim way [ inl one ↦ absurd (two one s t there_s there_t ne) | inr live ↦ apart live s t there_s there_t ne ];
}
  where
    alone : length m.finals ≡ 1 → (s : ℕ) → s < length m.finals → s ≢ 0 → ⊥
    alone one s l ne = ne (omega arith)

    two : length m.finals ≡ 1 → (s t : ℕ) → s < length m.finals → t < length m.finals → s ≢ t → ⊥
    two one s t l k ne = ne (omega arith)
