-- The least number that passes a test, from a part of the numbers and then from more.
use Rattle.std.proofs.Common.{◌≡◌, ℕ, ◌+◌, ◌<◌, ◌≤◌, ◌⊎◌, List, [], ◌∷◌, ◌++◌, Option, None, Some, length, get_or, take, refl, sym, subst, ap, inl, inr, arith, ◌∙◌}
use Rattle.std.specs.List.{Contains}
use Rattle.std.proofs.lemmas.List.{take_all, take_more}
use Rattle.std.proofs.lemmas.List.Elements.{Contains-push_cases, Contains-push, Contains-append_left}
use Rattle.std.proofs.lemmas.Option.{same_Some}
use Rattle.word_relations.proofs.Members.{Contains-nil_cases}
use Rattle.fsa.specs.declared.automaton.Edge.{Edge}
use Rattle.lookup.specs.Walks.{AreFrom, Carries, HasByte, IsLeast, IsLesser}
use Rattle.lookup.specs.declared.walk.Byte.{Byte}

pub least_none : (P : ℕ → Type 0) → ((k : ℕ) → P k → ⊥) → IsLeast P None
least_none P never = record { passes = λ b h. absurd (cc); least = λ b k h _. absurd (cc); none = λ _ k p. never k p }

pub least_same : (P Q : ℕ → Type 0) (found : Option ℕ) → ((k : ℕ) → P k → Q k) → ((k : ℕ) → Q k → P k) → IsLeast P found → IsLeast Q found
least_same P Q found f g l = record {
  passes = λ b h. f b (l.passes b h);
  least = λ b k h q. l.least b k h (g k q);
  none = λ h k q. l.none h k (g k q);
}

-- of two parts
module _ (P Q R : ℕ → Type 0) (cases : (k : ℕ) → R k → P k ⊎ Q k) (left : (k : ℕ) → P k → R k) (right : (k : ℕ) → Q k → R k) where
  pub least_of : (a b found : Option ℕ) → IsLesser a b found → IsLeast P a → IsLeast Q b → IsLeast R found
  least_of None b found is p q = record {
    passes = λ k h. right k (q.passes k (sym is ∙ h));
    least = λ k j h r. elim (cases j r) [ inl x ↦ absurd (p.none refl j x) | inr y ↦ q.least k j (sym is ∙ h) y ];
    none = λ h k r. elim (cases k r) [ inl x ↦ p.none refl k x | inr y ↦ q.none (sym is ∙ h) k y ];
  }
  least_of (Some x) None found is p q = record {
    passes = λ k h. left k (p.passes k (sym is ∙ h));
    least = λ k j h r. elim (cases j r) [ inl y ↦ p.least k j (sym is ∙ h) y | inr y ↦ absurd (q.none refl j y) ];
    none = λ h k r. absurd (let e : Some x ≡ None = sym is ∙ h in cc);
  }
  least_of (Some x) (Some y) found (z, is, below_x, below_y, one) p q = record {
    passes = λ k h.
        let e : z ≡ k = same_Some z k (sym is ∙ h) in
        subst R e (elim one [ inl s ↦ left z (subst P (sym s) (p.passes x refl)) | inr s ↦ right z (subst Q (sym s) (q.passes y refl)) ]);
    least = λ k j h r.
        let e : z ≡ k = same_Some z k (sym is ∙ h) in
        elim (cases j r) [
          | inl u ↦ let l = p.least x j refl u in omega arith
          | inr u ↦ let l = q.least y j refl u in omega arith
        ];
    none = λ h k r. absurd (let e : Some z ≡ None = sym is ∙ h in cc);
  }

module _ (floor : ℕ) where
  abbrev pub OnEdges : List (Edge Byte) → ℕ → Type 0
  OnEdges edges byte = (floor ≤ byte) × HasByte edges byte

  pub on_edges_none : (edges : List (Edge Byte)) → IsLeast (OnEdges (take 0 edges)) None
  on_edges_none edges = least_none (OnEdges (take 0 edges)) (λ k h. Contains-nil_cases h.1.0 h.1.1)

  pub on_edges_more : (edges : List (Edge Byte)) (i : ℕ) (e : Edge Byte) (a b found : Option ℕ) → i < length edges → e ≡ get_or edges i e → IsLesser a b found
      → IsLeast (OnEdges (take i edges)) a → IsLeast (λ byte. (floor ≤ byte) × (e.letter ≡ Some (record { 0 = byte }))) b → IsLeast (OnEdges (take (i + 1) edges)) found
  on_edges_more edges i e a b found inside at is p q =
      let more : take (i + 1) edges ≡ take i edges ++ e ∷ [] = take_more edges i e inside ∙ ap (λ y. take i edges ++ y ∷ []) (sym at) in
      least_of (OnEdges (take i edges)) (λ byte. (floor ≤ byte) × (e.letter ≡ Some (record { 0 = byte }))) (OnEdges (take (i + 1) edges))
      (λ k (low, (f, held, letter)). elim (Contains-push_cases (take i edges) e f (subst (λ es. Contains es f) more held)) [
        | inl old ↦ inl (low, (f, old, letter))
        | inr same ↦ inr (low, ap (λ g. g.letter) same ∙ letter)
      ])
      (λ k (low, (f, held, letter)). (low, (f, subst (λ es. Contains es f) (sym more) (Contains-append_left (take i edges) (e ∷ []) f held), letter)))
      (λ k (low, letter). (low, (e, subst (λ es. Contains es e) (sym more) (Contains-push (take i edges) e), letter)))
      a b found is p q

  pub on_edges_all : (edges : List (Edge Byte)) (i : ℕ) (found : Option ℕ) → length edges ≤ i → IsLeast (OnEdges (take i edges)) found → IsLeast (OnEdges edges) found
  on_edges_all edges i found past l = subst (λ es. IsLeast (OnEdges es) found) (take_all i edges past) l

  -- what is on the edges that leave the nodes leaves the nodes
  pub least_from : (edges leaving : List (Edge Byte)) (front : List ℕ) (found : Option ℕ) → AreFrom edges front leaving → IsLeast (OnEdges leaving) found
      → IsLeast (λ byte. (floor ≤ byte) × Carries edges front byte) found
  least_from edges leaving front found are l =
      least_same (OnEdges leaving) (λ byte. (floor ≤ byte) × Carries edges front byte) found
      (λ k (low, (e, held, letter)). let r = (are e).0 held in (low, (e, r.0, r.1, letter)))
      (λ k (low, (e, held, has, letter)). (low, (e, (are e).1 (held, has), letter))) l
