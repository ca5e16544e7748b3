-- The declared symbols of a table, and the longest that begins a text.
use Rattle.std.proofs.Common.{◌≡◌, ◌-◌, min, ◌<◌, ◌≤◌, ◌||◌, ℕ, Bool, true, false, List, [], ◌∷◌, ◌++◌, length, map, take, Vec, Global, Contains, nat_eq, refl, sym, ap, subst, inl, inr, arith}
use Rattle.std.proofs.lemmas.Bool.{cases_lt}
use Rattle.std.proofs.lemmas.List.{length-take-le}
use Rattle.std.proofs.lemmas.List.Elements.{All-contains, All-weaker}
use Rattle.std.specs.Cmp.Lexicographic.{pointwise, bytes_decides}
use Rattle.std.specs.Bool.{if◌then◌else◌}
use Rattle.std.specs.List.{list_any}
use Rattle.std.specs.Str.{bytes_eq}
use Rattle.fsm_base.specs.Symbols.{with_text}
use Rattle.fsm_base.proofs.CutLemmas.{Contains-cons_cases, Contains-first, Contains-later}
use Rattle.lexc_forms.specs.Fronts.{HasNoFront, IsLongestFront}
use Rattle.lexc_forms.specs.Kept.{kept, IsWithin, AreWithin}

-- a search among the symbols as they are kept
pub any_kept : (keys : List (Vec ℕ Global)) (text : List ℕ) → list_any (λ (k : Vec ℕ Global). pointwise nat_eq text k.items) keys ≡ list_any (bytes_eq text) (map kept keys)
any_kept [] text = refl
any_kept (k ∷ keys) text = ap (λ (b : Bool). pointwise nat_eq text k.items || b) (any_kept keys text)

pub held : (text : List ℕ) (symbols : List (List ℕ)) → list_any (bytes_eq text) symbols ≡ true → with_text text symbols ≡ symbols
held text symbols there = ap (λ (b : Bool). if b then symbols else symbols ++ text ∷ []) there

pub new : (text : List ℕ) (symbols : List (List ℕ)) → list_any (bytes_eq text) symbols ≡ false → with_text text symbols ≡ symbols ++ text ∷ []
new text symbols absent = ap (λ (b : Bool). if b then symbols else symbols ++ text ∷ []) absent

pub is_listed : (symbols : List (List ℕ)) (text : List ℕ) → list_any (bytes_eq text) symbols ≡ true → Contains symbols text
is_listed [] text there = absurd cc
is_listed (s ∷ symbols) text there = by (bytes_eq text s) refl (is_listed symbols text) there
  where
    by : (b : Bool) → bytes_eq text s ≡ b → (list_any (bytes_eq text) symbols ≡ true → Contains symbols text) → (b || list_any (bytes_eq text) symbols) ≡ true → Contains (s ∷ symbols) text
    by true is later any = subst (λ v. Contains (s ∷ symbols) v) (sym ((bytes_decides text s).0 is)) (Contains-first s symbols)
    by false is later any = Contains-later s symbols text (later any)

pub not_listed : (symbols : List (List ℕ)) (text : List ℕ) → list_any (bytes_eq text) symbols ≡ false → Contains symbols text → ⊥
not_listed [] text absent among = absurd (omega (arith, among.1))
not_listed (s ∷ symbols) text absent among = by (bytes_eq text s) refl (not_listed symbols text) absent
  where
    by : (b : Bool) → bytes_eq text s ≡ b → (list_any (bytes_eq text) symbols ≡ false → Contains symbols text → ⊥) → (b || list_any (bytes_eq text) symbols) ≡ false → ⊥
    by true is later any = cc
    by false is later any = elim (Contains-cons_cases s symbols text among) [
      | inl same ↦ let yes : bytes_eq text s ≡ true = (bytes_decides text s).1 (sym same) in cc
      | inr others ↦ later any others
    ]

pub within-more : (most more : ℕ) (symbols : List (List ℕ)) → most ≤ more → AreWithin most symbols → AreWithin more symbols
within-more most more symbols up within = All-weaker (IsWithin most) (IsWithin more) (λ s w. (w.0, omega (arith, w.1))) symbols within

module _ (symbols : List (List ℕ)) (text : List ℕ) where
  -- no longer front is a symbol
  abbrev pub NoneLonger : ℕ → Type 0
  NoneLonger n = (m : ℕ) → m ≤ length text → Contains symbols (take m text) → m ≤ n

  module _ (most : ℕ) (within : AreWithin most symbols) where
    pub none_longer_first : (n : ℕ) → n ≡ min most (length text) → NoneLonger n
    none_longer_first n is m fits among = omega (arith, is, (All-contains (IsWithin most) symbols (take m text) within among).1, length-take-le m text fits)

    pub none_left : (n : ℕ) → n ≤ 0 → NoneLonger n → HasNoFront symbols text
    none_left n none longer m fits among = omega (arith, none, longer m fits among, (All-contains (IsWithin most) symbols (take m text) within among).0, length-take-le m text fits)

  module _ (n : ℕ) (fits : n ≤ length text) (none_longer : NoneLonger n) where
    pub none_longer_next : list_any (bytes_eq (take n text)) symbols ≡ false → NoneLonger (n - 1)
    none_longer_next absent m m_fits among = elim (cases_lt m n) as (λ _. m ≤ n - 1) [
      | inl below ↦ omega arith
      | inr above ↦
          let same : m ≡ n = omega (arith, above, none_longer m m_fits among) in
          absurd (not_listed symbols (take n text) absent (subst (λ (k : ℕ). Contains symbols (take k text)) same among))
    ]

    pub longest_here : 0 < n → list_any (bytes_eq (take n text)) symbols ≡ true → IsLongestFront symbols text n
    longest_here some there = record { some = some; within = fits; listed = is_listed symbols (take n text) there; longest = none_longer }
