-- An automaton whose start is final and isn't entered, and the same with a start that isn't final.
use Rattle.std.proofs.Common.{◌≡◌, ◌≢◌, ◌<◌, ◌↔◌, ◌⊎◌, ℕ, zero, suc, List, [], ◌∷◌, All, Bool, false, Some, None, drop, length, refl, sym, ap, subst, ◌∙◌, inl, inr, arith}
use Rattle.std.specs.List.{Contains, slice_get}
use Rattle.std.proofs.lemmas.List.Elements.{All-contains}
use Rattle.word_relations.proofs.Members.{Contains-nil_cases}
use Rattle.fsa.specs.Automaton.{Automaton, UsesLetter, IsFinal, IsWellFormed}
use Rattle.fsa.specs.Language.{Accepts, AcceptsFrom, stop, read, skip}
use Rattle.fsa.specs.declared.automaton.Edge.{Edge}
use Rattle.fsa_rational.specs.Shapes.{Extends}
use Rattle.network_algebra.specs.Optional.{EntersOther, HasPlainStart}

module _ {L : Type 0} (m rest : Automaton L) (plain : HasPlainStart m rest) where
  pub plain_letters : (x : L) → UsesLetter rest x → UsesLetter m x
  plain_letters x (e, held, is) = (e, (plain.edges e).0 held, is)

  module _ (final : IsFinal m 0) (every : All EntersOther m.edges) where
    alone : (e : Edge L) → Contains m.edges e → e.to ≢ 0
    alone e held = All-contains EntersOther m.edges e every held

    -- what is accepted from another state is so in both
    there : (q : ℕ) (w : List L) → q ≢ 0 → AcceptsFrom m q w → AcceptsFrom rest q w
    there q w other (stop f) = stop (plain.finals q other ∙ f)
    there q w other (read {q = r} {x = x} {w = v} held onward) =
        read ((plain.edges (record { from = q; letter = Some x; to = r })).1 held) (there r v (alone (record { from = q; letter = Some x; to = r }) held) onward)
    there q w other (skip {q = r} held onward) =
        skip ((plain.edges (record { from = q; letter = None; to = r })).1 held) (there r w (alone (record { from = q; letter = None; to = r }) held) onward)

    final_in : (q : ℕ) → IsFinal rest q → IsFinal m q
    final_in zero f = final
    final_in (suc q) f = sym (plain.finals (suc q) (λ is. cc)) ∙ f

    back : (q : ℕ) (w : List L) → AcceptsFrom rest q w → AcceptsFrom m q w
    back q w (stop f) = stop (final_in q f)
    back q w (read {q = r} {x = x} {w = v} held onward) = read ((plain.edges (record { from = q; letter = Some x; to = r })).0 held) (back r v onward)
    back q w (skip {q = r} held onward) = skip ((plain.edges (record { from = q; letter = None; to = r })).0 held) (back r w onward)

    pub besides_language : (w : List L) → Accepts m w ↔ ((w ≡ []) ⊎ Accepts rest w)
    besides_language w = (
      first w,
      λ h. elim h as (λ _. Accepts m w) [ inl none ↦ subst (Accepts m) (sym none) (stop final) | inr path ↦ back 0 w path ],
    )
      where
        first : (v : List L) → Accepts m v → (v ≡ []) ⊎ Accepts rest v
        first v (stop f) = inl refl
        first v (read {q = r} {x = x} {w = u} held onward) =
            inr (read ((plain.edges (record { from = 0; letter = Some x; to = r })).1 held) (there r u (alone (record { from = 0; letter = Some x; to = r }) held) onward))
        first v (skip {q = r} held onward) =
            inr (skip ((plain.edges (record { from = 0; letter = None; to = r })).1 held) (there r v (alone (record { from = 0; letter = None; to = r }) held) onward))

others_same : (bs : List Bool) (q : ℕ) → 0 < length bs → q ≢ 0 → slice_get (false ∷ drop 1 bs) q ≡ slice_get bs q
others_same [] q some other = absurd (omega arith)
others_same (b ∷ bs) zero some other = absurd (other refl)
others_same (b ∷ bs) (suc q) some other = refl

pub plain_start : {L : Type 0} (m empty new : Automaton L) → 0 < length m.finals → empty ≡ record { edges = []; finals = false ∷ drop 1 m.finals } → Extends empty new (Contains m.edges) → HasPlainStart m new
plain_start {L} m empty new some is added = record {
  edges = λ e. (
    λ h. elim (added.only e h) as (λ _. Contains m.edges e) [
      | inl none ↦ absurd (Contains-nil_cases e (subst (λ es. Contains es e) (ap (λ (a : Automaton L). a.edges) is) none))
      | inr held ↦ held
    ],
    added.all e,
  );
  finals = λ q other. ap (λ (bs : List Bool). slice_get bs q) (added.finals ∙ ap (λ (a : Automaton L). a.finals) is) ∙ others_same m.finals q some other;
}

same_length : (bs : List Bool) → 0 < length bs → length bs ≡ length (false ∷ drop 1 bs)
same_length [] some = absurd (omega arith)
same_length (b ∷ bs) some = refl

pub plain_room : {L : Type 0} (m empty : Automaton L) → IsWellFormed m → empty ≡ record { edges = []; finals = false ∷ drop 1 m.finals } → (e : Edge L) → Contains m.edges e → (e.from < length empty.finals) × (e.to < length empty.finals)
plain_room {L} m empty formed is e held =
    let room : length m.finals ≡ length empty.finals = same_length m.finals formed.start ∙ sym (ap (λ (a : Automaton L). length a.finals) is) in
    let within = formed.within e held in
    (subst (λ (n : ℕ). e.from < n) room within.0, subst (λ (n : ℕ). e.to < n) room within.1)
