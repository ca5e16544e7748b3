-- An automaton whose entered states took over what epsilon edges reach from them has the same language, and no
-- epsilon edge.
use Rattle.std.proofs.Common.{◌≡◌, ℕ, ◌↔◌, List, Some, None, refl, subst, sym, ap, ◌∙◌}
use Rattle.std.specs.List.{Contains}
use Rattle.std.proofs.lemmas.Option.{same_Some}
use Rattle.fsa.specs.Automaton.{Automaton, UsesLetter, HasNoEpsilonEdge}
use Rattle.fsa.specs.Language.{AcceptsFrom, Accepts, stop, read, skip}
use Rattle.fsa.specs.declared.automaton.Edge.{Edge}
use Rattle.fsa_explore.specs.Reaches.{Reaches, here, along}
use Rattle.fsa_explore.proofs.Closed.{Reaches-push}
use Rattle.fsa_rational.specs.Bypass.{IsBypassed}

module _ {L : Type 0} (a : Automaton L) (edges : List (Edge L)) (same : (e : Edge L) → Contains edges e ↔ Contains a.edges e) (found : List ℕ) (m : Automaton L) (is : IsBypassed edges a.finals (Contains found) m) where
  pub bypassed_not_epsilon : HasNoEpsilonEdge m
  bypassed_not_epsilon e h = let r = ((is.edge e).0 h).1 in (r.1, r.3)

  pub bypassed_letters : (x : L) → UsesLetter m x → UsesLetter a x
  bypassed_letters x (e, h, reads) =
      let r = ((is.edge e).0 h).1 in
      let letter : r.1 ≡ x = same_Some r.1 x (sym r.3 ∙ reads) in
      (record { from = r.0; letter = Some r.1; to = e.to }, (same (record { from = r.0; letter = Some r.1; to = e.to })).0 r.4, ap Some letter)

  reached_accepts : {p q : ℕ} {w : List L} → Reaches edges p q → AcceptsFrom a q w → AcceptsFrom a p w
  reached_accepts here h = h
  reached_accepts {p} (along {q = q} e rest) h = skip ((same (record { from = p; letter = None; to = q })).0 e) (reached_accepts rest h)

  down : {s : ℕ} {w : List L} → AcceptsFrom m s w → AcceptsFrom a s w
  down {s} (stop h) = let r = ((is.final s).0 h).1 in reached_accepts r.1 (stop r.2)
  down {s} (read {q = q} {x = x} h rest) =
      let e : Edge L = record { from = s; letter = Some x; to = q } in
      let r = ((is.edge e).0 h).1 in
      let letter : r.1 ≡ x = same_Some r.1 x (sym r.3) in
      let held : Contains edges (record { from = r.0; letter = Some x; to = q }) = subst (λ y. Contains edges (record { from = r.0; letter = Some y; to = q })) letter r.4 in
      reached_accepts r.2 (read ((same (record { from = r.0; letter = Some x; to = q })).0 held) (down rest))
  down {s} (skip {q = q} h rest) =
      let e : Edge L = record { from = s; letter = None; to = q } in
      let r = ((is.edge e).0 h).1 in
      let epsilon : None ≡ Some r.1 = r.3 in
      absurd (cc)

  module _ (start : Contains found 0) (entered : (e : Edge L) (x : L) → Contains a.edges e → e.letter ≡ Some x → Contains found e.to) where
    up : {q : ℕ} {w : List L} → AcceptsFrom a q w → (p : ℕ) → Contains found p → Reaches edges p q → AcceptsFrom m p w
    up {q} (stop h) p there reach = stop ((is.final p).1 (there, (q, reach, h)))
    up {q} (read {q = r} {x = x} h rest) p there reach =
        let old : Edge L = record { from = q; letter = Some x; to = r } in
        let e : Edge L = record { from = p; letter = Some x; to = r } in
        read ((is.edge e).1 (there, (q, x, reach, refl, (same old).1 h))) (up rest r (entered old x h refl) here)
    up {q} (skip {q = r} h rest) p there reach =
        up rest p there (Reaches-push edges r reach ((same (record { from = q; letter = None; to = r })).1 h))

    pub bypassed_language : (w : List L) → Accepts m w ↔ Accepts a w
    bypassed_language w = (down, λ h. up h 0 start here)
