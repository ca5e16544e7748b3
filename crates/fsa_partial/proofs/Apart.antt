-- States that are apart, since a letter tells them.
use Rattle.std.proofs.Common.{◌≡◌, ◌≢◌, ℕ, zero, suc, ◌<◌, List, [], ◌∷◌, Bool, true, false, Some, length, map, refl, sym, subst, ap, inl, inr, arith, ◌∙◌, if◌then◌else◌}
use Rattle.std.specs.Prelude.{Vec}
use Rattle.std.specs.Global.{Global}
use Rattle.std.specs.List.{slice_get, Contains}
use Rattle.std.specs.Option.{option_map}
use Rattle.std.proofs.lemmas.Option.{slice_get-map, same_Some}
use Rattle.std.proofs.lemmas.Bool.{false≢true}
use Rattle.word_relations.proofs.Places.{slice_get_from_Contains}
use Rattle.fsa.specs.Automaton.{Automaton, IsWellFormed, IsFinal}
use Rattle.fsa.specs.Language.{AcceptsFrom, stop, read, skip}
use Rattle.fsa.specs.declared.automaton.Edge.{Edge}
use Rattle.fsa_partial.specs.declared.grouping.Arc.{Arc}
use Rattle.fsa_partial.specs.Groups.{AreGroups}
use Rattle.fsa_partial.specs.Minimal.{IsDeterministic, AreApart}
use Rattle.fsa_partial.specs.Splitting.{AreBelow, AreTold, IsSplit, AreLive, ClassesAreApart}
use Rattle.fsa_partial.proofs.Fewest.{no_skip, read_back}

pub apart_back : {L : Type 0} (m : Automaton L) (s t : ℕ) → AreApart m s t → AreApart m t s
apart_back m s t (w, way) = (w, elim way [ inl h ↦ inr (h.1, h.0) | inr h ↦ inl (h.1, h.0) ])

module _ {L : Type 0} (m : Automaton L) (formed : IsWellFormed m) (ok : IsDeterministic m) (live : AreLive m) where
  abbrev Edges : ℕ → L → ℕ → Type 0
  Edges s x t = Contains m.edges (record { from = s; letter = Some x; to = t })

  -- one reads the letter, and the other doesn't
  apart_alone : (s t u : ℕ) (x : L) → Edges s x u → ((v : ℕ) → Edges t x v → ⊥) → AreApart m s t
  apart_alone s t u x go never =
      let w = live u (formed.within (record { from = s; letter = Some x; to = u }) go).1 in
      (x ∷ w.0, inl (read go w.1, λ h. first h))
    where
      first : {v : List L} → AcceptsFrom m t (x ∷ v) → ⊥
      first (read {q = q} h rest) = never q h
      first (skip {q = q} h rest) = no_skip m ok t q h

  -- both read it, and get to states that are apart
  apart_both : (s t u v : ℕ) (x : L) → Edges s x u → Edges t x v → AreApart m u v → AreApart m s t
  apart_both s t u v x go other (w, way) = (
    x ∷ w,
    elim way [
      | inl h ↦ inl (read go h.0, λ r. h.1 (read_back m ok t v x w other r))
      | inr h ↦ inr (λ r. h.0 (read_back m ok s u x w go r), read other h.1)
    ],
  )

  module _ (groups : List (Vec Arc Global)) (are : AreGroups m.edges groups) (targets : List ℕ) where
    -- targets of different classes are apart, as far as that is known
    pub told_apart : (arcs : Vec Arc Global) → Contains groups arcs → (s t : ℕ)
        → ((u v : ℕ) → Contains arcs.items (record { from = s; to = u }) → Contains arcs.items (record { from = t; to = v }) → slice_get targets u ≢ slice_get targets v → AreApart m u v)
        → AreTold targets arcs.items s t → AreApart m s t
    told_apart arcs held s t known way =
        let k = slice_get_from_Contains groups arcs held in
        let r = are.each k.0 arcs k.1 in
        let x = r.0 in
        elim way [
          | inl (h, never) ↦ apart_alone s t h.0 x ((r.1 s h.0).0 h.1) (λ v go. never (v, (r.1 t v).1 go))
          | inr rest ↦ elim rest [
            | inl (never, h) ↦ apart_back m t s (apart_alone t s h.0 x ((r.1 t h.0).0 h.1) (λ v go. never (v, (r.1 s v).1 go)))
            | inr (u, v, in_s, in_t, differ) ↦ apart_both s t u v x ((r.1 s u).0 in_s) ((r.1 t v).0 in_t) (known u v in_s in_t differ)
          ]
        ]

    pub split_apart : (old new : List ℕ) → ClassesAreApart m targets → ClassesAreApart m old → IsSplit targets groups old new → ClassesAreApart m new
    split_apart old new known before split s t there_s there_t ne = elim (split s t ne) [
      | inl differ ↦ before s t there_s there_t differ
      | inr (arcs, held, told) ↦
          let k = slice_get_from_Contains groups arcs held in
          let r = are.each k.0 arcs k.1 in
          let below : (p q : ℕ) → Contains arcs.items (record { from = p; to = q }) → q < length m.finals = λ p q h. (formed.within (record { from = p; letter = Some r.0; to = q }) ((r.1 p q).0 h)).1 in
          told_apart arcs held s t (λ u v in_s in_t differ. known u v (below s u in_s) (below t v in_t) differ) told
    ]

pub groups_below : {L : Type 0} (m : Automaton L) → IsWellFormed m → (groups : List (Vec Arc Global)) → AreGroups m.edges groups → (bound : ℕ) → bound ≡ length m.finals → (arcs : Vec Arc Global) → Contains groups arcs → AreBelow arcs.items bound
groups_below {L} m formed groups are bound same arcs held a h =
    let k = slice_get_from_Contains groups arcs held in
    let r = are.each k.0 arcs k.1 in
    let e : Edge L = record { from = a.from; letter = Some r.0; to = a.to } in
    let w = formed.within e ((r.1 a.from a.to).0 h) in
    (subst (λ n. a.from < n) (sym same) w.0, subst (λ n. a.to < n) (sym same) w.1)

-- a final state and another one are apart by the empty word
pub ends_apart : {L : Type 0} (m : Automaton L) → IsDeterministic m → (classes : List ℕ) → classes ≡ map (λ is_final. if is_final then 1 else 0) m.finals → ClassesAreApart m classes
ends_apart {L} m ok classes is s t there_s there_t ne =
    let a = place m.finals s there_s in
    let b = place m.finals t there_t in
    by a.0 b.0 a.1 b.1
  where
    place : (xs : List Bool) (k : ℕ) → k < length xs → (x : Bool) × (slice_get xs k ≡ Some x)
    place [] k l = absurd (omega arith)
    place (x ∷ xs) zero l = (x, refl)
    place (x ∷ xs) (suc k) l = place xs k (omega arith)

    class_at : (k : ℕ) (x : Bool) → slice_get m.finals k ≡ Some x → slice_get classes k ≡ Some (if x then 1 else 0)
    class_at k x at = ap (λ cs. slice_get cs k) is ∙ slice_get-map (λ is_final. if is_final then 1 else 0) m.finals k ∙ ap (option_map (λ is_final. if is_final then 1 else 0)) at

    ends : (k : ℕ) → AcceptsFrom m k [] → IsFinal m k
    ends k (stop h) = h
    ends k (skip {q = q} h rest) = absurd (no_skip m ok k q h)

    never : (k : ℕ) → slice_get m.finals k ≡ Some false → AcceptsFrom m k [] → ⊥
    never k at h = let clash : Some false ≡ Some true = sym at ∙ ends k h in false≢true (same_Some false true clash)

    by : (x y : Bool) → slice_get m.finals s ≡ Some x → slice_get m.finals t ≡ Some y → AreApart m s t
    by true true at_s at_t = absurd (ne (class_at s true at_s ∙ sym (class_at t true at_t)))
    by false false at_s at_t = absurd (ne (class_at s false at_s ∙ sym (class_at t false at_t)))
    by true false at_s at_t = ([], inl (stop at_s, never t at_t))
    by false true at_s at_t = ([], inr (never s at_s, stop at_t))
