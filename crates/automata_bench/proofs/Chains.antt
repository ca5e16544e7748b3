-- A chain that gets one edge more keeps to its letters.
use Rattle.std.proofs.Common.{◌≡◌, ◌<◌, ℕ, false, List, [], ◌∷◌, ◌++◌, length, length-append, Some, Contains, ap, subst, ◌∙◌, inl, inr, arith}
use Rattle.std.proofs.lemmas.List.Elements.{Contains-push_cases}
use Rattle.fsm_base.specs.declared.letters.Sym.{Sym}
use Rattle.fsa.specs.declared.automaton.Edge.{Edge}
use Rattle.fsa.specs.Automaton.{Automaton, UsesLetter}

same_letter : (a b : Sym) → Some a ≡ Some b → a ≡ b
same_letter a b e = cc

pub grown_inside : (m grown longer : Automaton Sym) (edges : List (Edge Sym)) (to : ℕ) → grown ≡ record m { finals = m.finals ++ false ∷ [] } → longer ≡ record grown { edges = edges } → to ≡ length m.finals → to < length longer.finals
grown_inside m grown longer edges to is_grown is_longer number =
    omega (arith, ap (λ (z : Automaton Sym). length z.finals) is_longer, ap (λ (z : Automaton Sym). length z.finals) is_grown, length-append m.finals (false ∷ []), number)

pub grown_letters : (m grown longer : Automaton Sym) (letters : List Sym) (letter : Sym) (from to : ℕ) → grown ≡ record m { finals = m.finals ++ false ∷ [] }
    → longer ≡ record grown { edges = grown.edges ++ record { from = from; letter = Some letter; to = to } ∷ [] } → Contains letters letter
    → ((x : Sym) → UsesLetter m x → Contains letters x) → (x : Sym) → UsesLetter longer x → Contains letters x
grown_letters m grown longer letters letter from to is_grown is_longer held before x (edge, there, carries) =
    elim (Contains-push_cases grown.edges (record { from = from; letter = Some letter; to = to }) edge (subst (λ (z : Automaton Sym). Contains z.edges edge) is_longer there)) as (λ _. Contains letters x) [
      | inl old ↦ before x (edge, subst (λ (z : Automaton Sym). Contains z.edges edge) is_grown old, carries)
      | inr same ↦ subst (λ (y : Sym). Contains letters y) (same_letter letter x (ap (λ (e : Edge Sym). e.letter) same ∙ carries)) held
    ]
