-- The states that edges enter, one edge more at a time.
use Rattle.std.proofs.Common.{◌≡◌, ℕ, ◌+◌, ◌<◌, ◌≤◌, ◌⊎◌, List, [], ◌∷◌, ◌++◌, Option, length, get_or, take, drop, subst, sym, ap, inl, inr, ◌∙◌}
use Rattle.std.specs.List.{Contains}
use Rattle.std.specs.List.Sorted.{IsPermutation}
use Rattle.std.proofs.lemmas.List.Sorted.{Contains-permutation, IsPermutation-sym}
use Rattle.std.proofs.lemmas.List.{take_more, take_all, take-append-drop}
use Rattle.std.proofs.lemmas.List.Elements.{Contains-push_cases, Contains-push, Contains-append_left}
use Rattle.word_relations.proofs.Members.{Contains-nil_cases}
use Rattle.fsa.specs.declared.automaton.Edge.{Edge}
use Rattle.fsa_explore.specs.Marks.{Marks, Adds, Grows}
use Rattle.fsa_explore.specs.Targets.{IsTarget, AreWithin}
use Rattle.fsa_explore.proofs.Added.{Adds-none, Adds-then, Adds-same, Grows-weaker}

module _ {L : Type 0} (edges : List (Edge L)) (letter : Option L) where
  pub targets_none : (m : Marks) → Adds m m (IsTarget (take 0 edges) letter)
  targets_none m = Adds-none m (IsTarget (take 0 edges) letter) (λ k t. Contains-nil_cases t.0 t.1)

  pub targets_front : (i k : ℕ) → IsTarget (take i edges) letter k → IsTarget edges letter k
  targets_front i k (e, h, x, to) =
      (e, subst (λ es. Contains es e) (take-append-drop i edges) (Contains-append_left (take i edges) (drop i edges) e h), x, to)

  module _ (i : ℕ) (e : Edge L) (within : i < length edges) (at : e ≡ get_or edges i e) where
    front : take (i + 1) edges ≡ take i edges ++ e ∷ []
    front = take_more edges i e within ∙ ap (λ y. take i edges ++ y ∷ []) (sym at)

    earlier : (k : ℕ) → IsTarget (take i edges) letter k → IsTarget (take (i + 1) edges) letter k
    earlier k (f, h, x, to) = (f, subst (λ es. Contains es f) (sym front) (Contains-append_left (take i edges) (e ∷ []) f h), x, to)

    split : (k : ℕ) → IsTarget (take (i + 1) edges) letter k → IsTarget (take i edges) letter k ⊎ ((e.letter ≡ letter) × (k ≡ e.to))
    split k (f, h, x, to) = elim (Contains-push_cases (take i edges) e f (subst (λ es. Contains es f) front h)) [
      | inl old ↦ inl (f, old, x, to)
      | inr same ↦ inr (ap (λ y. y.letter) same ∙ x, sym (ap (λ y. y.to) same ∙ to))
    ]

    pub targets_more : (start now new : Marks) → e.letter ≡ letter → Adds start now (IsTarget (take i edges) letter) → Adds now new (λ k. k ≡ e.to) → Adds start new (IsTarget (take (i + 1) edges) letter)
    targets_more start now new reads first second =
        Adds-then start now new (IsTarget (take i edges) letter) (λ k. k ≡ e.to) (IsTarget (take (i + 1) edges) letter)
        (λ k t. elim (split k t) [ inl old ↦ inl old | inr fresh ↦ inr fresh.1 ]) earlier
        (λ k is. (e, subst (λ es. Contains es e) (sym front) (Contains-push (take i edges) e), reads, sym is)) first second

    pub targets_past : (start now : Marks) → (e.letter ≡ letter → ⊥) → Adds start now (IsTarget (take i edges) letter) → Adds start now (IsTarget (take (i + 1) edges) letter)
    targets_past start now other h =
        Adds-same start now (IsTarget (take i edges) letter) (IsTarget (take (i + 1) edges) letter) earlier
        (λ k t. elim (split k t) [ inl old ↦ old | inr fresh ↦ absurd (other fresh.0) ]) h

  pub targets_all : (i : ℕ) (start now : Marks) → length edges ≤ i → Adds start now (IsTarget (take i edges) letter) → Adds start now (IsTarget edges letter)
  targets_all i start now past h = subst (λ es. Adds start now (IsTarget es letter)) (take_all i edges past) h

  pub targets_some : (i : ℕ) (start now : Marks) → Adds start now (IsTarget (take i edges) letter) → Grows start now (IsTarget edges letter)
  targets_some i start now h = Grows-weaker start now (IsTarget (take i edges) letter) (IsTarget edges letter) (targets_front i) h.grows

-- edges that enter states below a bound, one edge more, and in another order
module _ {L : Type 0} (bound : ℕ) where
  pub AreWithin-permutation : (edges others : List (Edge L)) → IsPermutation edges others → AreWithin edges bound → AreWithin others bound
  AreWithin-permutation edges others moved within f h = within f (Contains-permutation others edges f (IsPermutation-sym edges others moved) h)
