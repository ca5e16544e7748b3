-- Numbers that are added, one call after another.
use Rattle.std.proofs.Common.{◌≡◌, ℕ, ◌⊎◌, [], ◌∷◌, ◌++◌, refl, subst, sym, ap, inl, inr, ◌∙◌, append_assoc}
use Rattle.std.specs.List.{Contains}
use Rattle.std.proofs.lemmas.List.{append-nil}
use Rattle.std.proofs.lemmas.List.Elements.{Contains-push_cases, Contains-push, Contains-append_left}
use Rattle.fsa_explore.specs.Marks.{Marks, Adds, Grows}

pub Grows-none : (m : Marks) (P : ℕ → Type 0) → Grows m m P
Grows-none m P = record { bound = refl; grown = ([], sym (append-nil m.found)); only = λ k h. inl h }

pub Grows-weaker : (a b : Marks) (P Q : ℕ → Type 0) → ((k : ℕ) → P k → Q k) → Grows a b P → Grows a b Q
Grows-weaker a b P Q f g = record {
  bound = g.bound;
  grown = g.grown;
  only = λ k h. elim (g.only k h) [ inl old ↦ inl old | inr p ↦ inr (f k p) ];
}

pub Grows-keeps : (a b : Marks) (P : ℕ → Type 0) → Grows a b P → (k : ℕ) → Contains a.found k → Contains b.found k
Grows-keeps a b P g k h = subst (λ ks. Contains ks k) (sym g.grown.1) (Contains-append_left a.found g.grown.0 k h)

pub Grows-then : (a b c : Marks) (P Q R : ℕ → Type 0) → ((k : ℕ) → P k → R k) → ((k : ℕ) → Q k → R k) → Grows a b P → Grows b c Q → Grows a c R
Grows-then a b c P Q R f g first second = record {
  bound = second.bound ∙ first.bound;
  grown = (
    first.grown.0 ++ second.grown.0,
    second.grown.1 ∙ ap (λ ks. ks ++ second.grown.0) first.grown.1 ∙ append_assoc a.found first.grown.0 second.grown.0,
  );
  only = λ k h. elim (second.only k h) [
    | inl old ↦ elim (first.only k old) [ inl older ↦ inl older | inr p ↦ inr (f k p) ]
    | inr q ↦ inr (g k q)
  ];
}

pub Adds-none : (m : Marks) (P : ℕ → Type 0) → ((k : ℕ) → P k → ⊥) → Adds m m P
Adds-none m P never = record { grows = Grows-none m P; all = λ k p. absurd (never k p) }

pub Adds-then : (a b c : Marks) (P Q R : ℕ → Type 0) → ((k : ℕ) → R k → P k ⊎ Q k) → ((k : ℕ) → P k → R k) → ((k : ℕ) → Q k → R k) → Adds a b P → Adds b c Q → Adds a c R
Adds-then a b c P Q R split f g first second = record {
  grows = Grows-then a b c P Q R f g first.grows second.grows;
  all = λ k r. elim (split k r) [ inl p ↦ Grows-keeps b c Q second.grows k (first.all k p) | inr q ↦ second.all k q ];
}

pub Adds-same : (a b : Marks) (P Q : ℕ → Type 0) → ((k : ℕ) → P k → Q k) → ((k : ℕ) → Q k → P k) → Adds a b P → Adds a b Q
Adds-same a b P Q f g h = record { grows = Grows-weaker a b P Q f h.grows; all = λ k q. h.all k (g k q) }

-- one number more
pub Adds-one : (a b : Marks) (n : ℕ) → b.bound ≡ a.bound → b.found ≡ a.found ++ n ∷ [] → Adds a b (λ k. k ≡ n)
Adds-one a b n bound found = record {
  grows = record {
    bound = bound;
    grown = (n ∷ [], found);
    only = λ k h. elim (Contains-push_cases a.found n k (subst (λ ks. Contains ks k) found h)) [ inl old ↦ inl old | inr same ↦ inr (sym same) ];
  };
  all = λ k e. subst (λ j. Contains b.found j) (sym e) (subst (λ ks. Contains ks n) (sym found) (Contains-push a.found n));
}

pub Adds-held : (a : Marks) (n : ℕ) → Contains a.found n → Adds a a (λ k. k ≡ n)
Adds-held a n h = record { grows = Grows-none a (λ k. k ≡ n); all = λ k e. subst (λ j. Contains a.found j) (sym e) h }
