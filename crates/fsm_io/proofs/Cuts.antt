-- Laws on the lines of bytes and on lines as they are told.
use Rattle.std.proofs.Common.{◌≡◌, ◌≢◌, ℕ, suc, ◌<◌, ◌≤◌, Bool, true, false, List, [], ◌∷◌, ◌++◌, length, take, nat_le, ◌==◌, None, Some, Contains, cond, ◌⊎◌, inl, inr, refl, sym, ap, ◌∙◌, arith, length-append, length-take}
use Rattle.std.proofs.lemmas.List.{take_all}
use Rattle.std.proofs.lemmas.Bool.Decides.{nat_tests}
use Rattle.std.proofs.lemmas.List.Elements.{All-append}
use Rattle.std.proofs.Math.Seq.{get_or-append_seam}
use Rattle.fsm_io.specs.Lines.{onto, raw_lines, told, IsWithinLine}
use Rattle.fsm_io.specs.Gather.{most_kept}

-- ---- no newline

pub within-nil : IsWithinLine []
within-nil k d lt = absurd (omega (arith, lt))

pub within-cons : (b : ℕ) (bytes : List ℕ) → IsWithinLine (b ∷ bytes) → (b ≢ 10) × IsWithinLine bytes
within-cons b bytes w = (w 0 0 (omega arith), λ k d lt. w (suc k) d (omega (arith, lt)))

pub within-append : (p q : List ℕ) → IsWithinLine p → IsWithinLine q → IsWithinLine (p ++ q)
within-append p q = All-append (λ b. b ≢ 10) p q

pub within-none : (bytes : List ℕ) → IsWithinLine bytes → ¬ Contains bytes 10
within-none bytes w found = w found.0 10 found.1 found.2

pub contains_newline : (piece rest : List ℕ) → Contains (piece ++ 10 ∷ rest) 10
contains_newline piece rest = (length piece, omega (arith, length-append piece (10 ∷ rest)), get_or-append_seam piece 10 rest 10)

-- ---- lines

not_newline : (b : ℕ) → b ≢ 10 → (b == 10) ≡ false
not_newline b other = grind (arith, nat_tests)

-- the bytes up to a newline are a line
pub raw_lines-newline : (ended : Bool) (piece more : List ℕ) → IsWithinLine piece → raw_lines ended (piece ++ 10 ∷ more) ≡ piece ∷ raw_lines ended more
raw_lines-newline ended [] more w = refl
raw_lines-newline ended (b ∷ piece) more w =
    let parts = within-cons b piece w in
    let rest = raw_lines ended (piece ++ 10 ∷ more) in
    ap (λ (t : Bool). cond t ([] ∷ rest) (onto ended b rest)) (not_newline b parts.0) ∙ ap (onto ended b) (raw_lines-newline ended piece more parts.1)

-- bytes without newline are a line once they have ended
pub raw_lines-last : (b : ℕ) (piece : List ℕ) → IsWithinLine (b ∷ piece) → raw_lines true (b ∷ piece) ≡ (b ∷ piece) ∷ []
raw_lines-last b [] w = ap (λ (t : Bool). cond t ([] ∷ []) ((b ∷ []) ∷ [])) (not_newline b (within-cons b [] w).0)
raw_lines-last b (c ∷ piece) w =
    let parts = within-cons b (c ∷ piece) w in
    let rest = raw_lines true (c ∷ piece) in
    ap (λ (t : Bool). cond t ([] ∷ rest) (onto true b rest)) (not_newline b parts.0) ∙ ap (onto true b) (raw_lines-last c piece parts.1)

pub raw_lines-end : (piece : List ℕ) → 0 < length piece → IsWithinLine piece → raw_lines true piece ≡ piece ∷ []
raw_lines-end [] some w = absurd (omega arith)
raw_lines-end (b ∷ piece) some w = raw_lines-last b piece w

-- and none as long as more may come
pub raw_lines-within : (piece : List ℕ) → IsWithinLine piece → raw_lines false piece ≡ []
raw_lines-within [] w = refl
raw_lines-within (b ∷ piece) w =
    let parts = within-cons b piece w in
    let rest = raw_lines false piece in
    ap (λ (t : Bool). cond t ([] ∷ rest) (onto false b rest)) (not_newline b parts.0) ∙ ap (onto false b) (raw_lines-within piece parts.1)

-- ---- told

told_at : (line : List ℕ) (t : Bool) → nat_le (length line) 4096 ≡ t → told line ≡ cond t (Some line) None
told_at line t e = ap (λ (b : Bool). cond b (Some line) None) e

pub told-short : (line : List ℕ) → length line ≤ 4096 → told line ≡ Some line
told-short line le = told_at line true (grind (arith, nat_tests))

pub told-long : (line : List ℕ) → 4096 < length line → told line ≡ None
told-long line lt = told_at line false (grind (arith, nat_tests))

-- a line is short or long
pub told-cases : (line : List ℕ) → ((length line ≤ 4096) × (told line ≡ Some line)) ⊎ ((4096 < length line) × (told line ≡ None))
told-cases line = at (nat_le (length line) 4096) refl where
  at : (t : Bool) → nat_le (length line) 4096 ≡ t → ((length line ≤ 4096) × (told line ≡ Some line)) ⊎ ((4096 < length line) × (told line ≡ None))
  at true e = let le : length line ≤ 4096 = grind (arith, nat_tests) in inl (le, told-short line le)
  at false e = let lt : 4096 < length line = grind (arith, nat_tests) in inr (lt, told-long line lt)

-- lines that are told alike are the same or both long
pub told-same : (a b : List ℕ) → told a ≡ told b → (a ≡ b) ⊎ ((4096 < length a) × (4096 < length b))
told-same a b e = elim (told-cases a) [
  | inl p ↦ elim (told-cases b) [
    | inl q ↦ inl (let same : Some a ≡ Some b = sym p.1 ∙ e ∙ q.1 in cc)
    | inr q ↦ absurd (let same : Some a ≡ None = sym p.1 ∙ e ∙ q.1 in cc)
  ]
  | inr p ↦ elim (told-cases b) [
    | inl q ↦ absurd (let same : None ≡ Some b = sym p.1 ∙ e ∙ q.1 in cc)
    | inr q ↦ inr (p.0, q.0)
  ]
]

pub told-append : (a b piece : List ℕ) → told a ≡ told b → told (a ++ piece) ≡ told (b ++ piece)
told-append a b piece e = elim (told-same a b e) [
  | inl same ↦ ap (λ (l : List ℕ). told (l ++ piece)) same
  | inr long ↦
      told-long (a ++ piece) (omega (arith, length-append a piece, long.0)) ∙ sym (told-long (b ++ piece) (omega (arith, length-append b piece, long.1)))
]

-- lines that are told alike are both empty or not
pub told-some : (a b : List ℕ) → told a ≡ told b → 0 < length a → 0 < length b
told-some a b e some = elim (told-same a b e) [
  | inl same ↦ omega (arith, some, ap length same)
  | inr long ↦ omega (arith, long.1)
]

pub told-nil : (a b : List ℕ) → told a ≡ told b → a ≡ [] → b ≡ []
told-nil a b e none = elim (told-same a b e) [
  | inl same ↦ sym same ∙ none
  | inr long ↦ absurd (omega (arith, long.0, ap length none))
]

-- what is kept of a line tells the same
pub told-kept : (line : List ℕ) → told (take most_kept line) ≡ told line
unfolding most_kept
told-kept line = elim (told-cases line) [
  | inl short ↦ ap told (take_all 4097 line (omega (arith, short.0)))
  | inr long ↦ told-long (take 4097 line) (omega (arith, length-take 4097 line, long.0)) ∙ sym long.1
]
