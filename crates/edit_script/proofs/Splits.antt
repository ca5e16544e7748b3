-- A word without a space, a space, and what stands behind it.
use Rattle.std.proofs.Common.{◌≡◌, ◌≢◌, ◌<◌, ℕ, Bool, true, false, not, ◌==◌, ◌&&◌, List, [], ◌∷◌, ◌++◌, length, Option, Some, None, MatchOption, Bor, slice_index_or, refl, sym, ap, subst, ◌∙◌, arith, inl, inr}
use Rattle.std.proofs.lemmas.List.Elements.{All-nil, All-cons, All-head, All-tail, All-weaker, All-from_get_or}
use Rattle.std.proofs.lemmas.Str.Pattern.{IsSplitOnceResult, split_parts}
use Rattle.std.specs.List.{list_all}
use Rattle.project_manifest.specs.Manifests.{IsFileByte, project_name}
use Rattle.edit_script.specs.Commands.{HasNoSpace, IsFile, spaced}

-- the space is the first one
pub one_split : (a b x y : List ℕ) → HasNoSpace a → HasNoSpace b → spaced a x ≡ spaced b y → (a ≡ b) × (x ≡ y)
one_split [] [] x y p q e = (refl, let same : x ≡ y = cc in same)
one_split [] (c ∷ b) x y p q e = let clash : c ≡ 32 = cc in absurd (All-head (λ n. n ≢ 32) c b q clash)
one_split (c ∷ a) [] x y p q e = let clash : c ≡ 32 = cc in absurd (All-head (λ n. n ≢ 32) c a p clash)
one_split (c ∷ a) (d ∷ b) x y p q e =
    let first : c ≡ d = cc in
    let others : spaced a x ≡ spaced b y = cc in
    let rest = one_split a b x y (All-tail (λ n. n ≢ 32) c a p) (All-tail (λ n. n ≢ 32) d b q) others in
    ((ap (λ (n : ℕ). n ∷ a) first ∙ ap (λ (z : List ℕ). d ∷ z) rest.0), rest.1)

has_space : (a x : List ℕ) → HasNoSpace (spaced a x) → ⊥
has_space [] x p = All-head (λ n. n ≢ 32) 32 x p refl
has_space (c ∷ a) x p = has_space a x (All-tail (λ n. n ≢ 32) c (spaced a x) p)

pub no_split : (text a x : List ℕ) → HasNoSpace text → text ≡ spaced a x → ⊥
no_split text a x p e = has_space a x (subst HasNoSpace e p)

-- a word whose bytes are known
not_space : (n : ℕ) → not (n == 32) ≡ true → n ≢ 32
not_space n h e = let h' : not (32 == 32) ≡ true = subst (λ (m : ℕ). not (m == 32) ≡ true) e h in cc

both_true : (a b : Bool) → (a && b) ≡ true → (a ≡ true) × (b ≡ true)
both_true true b h = (refl, h)
both_true false b h = cc

pub spelled_out : (word : List ℕ) → list_all (λ n. not (n == 32)) word ≡ true → HasNoSpace word
spelled_out [] h = All-nil (λ n. n ≢ 32)
spelled_out (c ∷ word) h =
    let parts = both_true (not (c == 32)) (list_all (λ n. not (n == 32)) word) h in
    All-cons (λ n. n ≢ 32) c word (not_space c parts.0) (spelled_out word parts.1)

file_byte : (n : ℕ) → IsFileByte n → n ≢ 32
file_byte n (inl p) e = absurd (omega (arith, p, e))
file_byte n (inr (inl p)) e = absurd (omega (arith, p, e))
file_byte n (inr (inr (inl p))) e = absurd (omega (arith, p, e))
file_byte n (inr (inr (inr (inl p)))) e = absurd (omega (arith, p, e))
file_byte n (inr (inr (inr (inr (inl p))))) e = absurd (omega (arith, p, e))
file_byte n (inr (inr (inr (inr (inr p))))) e = absurd (omega (arith, p, e))

pub file_no_space : (file : List ℕ) → IsFile file → HasNoSpace file
file_no_space file (inl is) = subst HasNoSpace (sym is) (spelled_out project_name refl)
file_no_space file (inr name) = All-weaker IsFileByte (λ n. n ≢ 32) file_byte file name.bytes

-- what `split_once` says, in these words
pub split_says : (text : List ℕ) (r : Option (Bor (List ℕ) × Bor (List ℕ))) → IsSplitOnceResult 32 text r → MatchOption r (HasNoSpace text) (λ parts. HasNoSpace parts.0.now × (text ≡ spaced parts.0.now parts.1.now))
split_says text r h = by r (split_parts 32 text r h (omega arith))
  where
    by : (r : Option (Bor (List ℕ) × Bor (List ℕ))) → MatchOption r ((i : ℕ) → i < length text → slice_index_or text i 0 ≢ 32) (λ x. (text ≡ x.0.now ++ (32 ∷ x.1.now)) × ((i : ℕ) → i < length x.0.now → slice_index_or x.0.now i 0 ≢ 32))
        → MatchOption r (HasNoSpace text) (λ parts. HasNoSpace parts.0.now × (text ≡ spaced parts.0.now parts.1.now))
    by None p = All-from_get_or (λ n. n ≢ 32) text 0 p
    by (Some parts) p = (All-from_get_or (λ n. n ≢ 32) parts.0.now 0 p.1, p.0)
