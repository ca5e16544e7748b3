-- What the bits of a row say.
use Rattle.std.proofs.Common.{◌≡◌, ℕ, ◌*◌, ◌^◌, ◌%◌, ◌<◌, ◌≤◌, ◌⊎◌, true, false, sym, ap, inl, inr, arith, nat_eq, bit_and, bit_or, w64, ◌∙◌}
use Rattle.std.specs.Int.{bit_at, bit_not}
use Rattle.std.proofs.lemmas.Bool.{cases_eq, cases_lt, false≢true}
use Rattle.std.proofs.lemmas.Bool.Decides.{Decides-eqb}
use Rattle.std.proofs.lemmas.Nat.{shl_whole}
use Rattle.std.proofs.lemmas.Nat.Bits.{bit_at-zero, bit_at-lt, bit_at_and, bit_at_or, bit_at_not, bit_at_above, bit_at-pow_same, bit_at-pow_other}
use Rattle.flag_diacritics.specs.Idle.{is_idle}

pub bit_of_idle : (row f : ℕ) → is_idle row f ≡ true → bit_at row f ≡ 1
bit_of_idle row f idle = (Decides-eqb (bit_at row f) 1).0 idle

pub idle_of_bit : (row f : ℕ) → bit_at row f ≡ 1 → is_idle row f ≡ true
idle_of_bit row f is = (Decides-eqb (bit_at row f) 1).1 is

-- a row has no bit for a feature past its width
pub none_past : (row f : ℕ) → row < 2 ^ 64 → 64 ≤ f → is_idle row f ≡ false
none_past row f fits past = ap (λ b. nat_eq b 1) (bit_at_above row 64 f fits past)

pub idle_within : (row f : ℕ) → row < 2 ^ 64 → is_idle row f ≡ true → f < 64
idle_within row f fits idle = elim (cases_lt f 64) [
  | inl within ↦ within
  | inr past ↦ absurd (false≢true (sym (none_past row f fits past) ∙ idle))
]

one_whole : (k : ℕ) → k < 64 → 1 * 2 ^ k % 2 ^ 64 ≡ 2 ^ k
one_whole k within =
    let one : 1 * 2 ^ k ≡ 2 ^ k = omega arith in
    shl_whole 1 1 k 64 (omega arith) (omega arith) ∙ one

-- the row of one feature has no other
pub one_bit : (k other : ℕ) → k < 64 → is_idle (1 * 2 ^ k % 2 ^ 64) other ≡ true → k ≡ other
one_bit k other within idle =
    elim (cases_eq other k) [
      | inl is ↦ sym is
      | inr apart ↦ absurd (false≢true (sym (ap (λ n. is_idle n other) (one_whole k within) ∙ ap (λ b. nat_eq b 1) (bit_at-pow_other k other apart)) ∙ idle))
    ]

-- what is idle by one row is idle by one of two others, if none is left without these
pub stays_by_bits : (before behind set f : ℕ) → before < 2 ^ 64 → bit_or behind set < 2 ^ 64 → bit_and before (bit_not w64 (bit_or behind set)) ≡ 0 → is_idle before f ≡ true
    → (is_idle behind f ≡ true) ⊎ (is_idle set f ≡ true)
stays_by_bits before behind set f fits both_fit none idle =
    let within : f < 64 = idle_within before f fits idle in
    let here : bit_at before f ≡ 1 = bit_of_idle before f idle in
    let both : ℕ = bit_or behind set in
    let off : bit_at (bit_and before (bit_not w64 both)) f ≡ 0 = ap (λ n. bit_at n f) none ∙ bit_at-zero f in
    let meet = bit_at_and before (bit_not w64 both) f in
    let turned = bit_at_not w64 both f both_fit within in
    let join = bit_at_or behind set f in
    let small = bit_at-lt behind f in
    let small_set = bit_at-lt set f in
    elim (cases_eq (bit_at behind f) 1) [
      | inl is ↦ inl (idle_of_bit behind f is)
      | inr apart ↦ inr (idle_of_bit set f (omega arith))
    ]

-- what is idle by a row has no bit in one that has none in common with it
pub none_of_both : (row bits f : ℕ) → bit_and row bits ≡ 0 → is_idle row f ≡ true → bit_at bits f ≡ 0
none_of_both row bits f apart idle =
    let here : bit_at row f ≡ 1 = bit_of_idle row f idle in
    let off : bit_at (bit_and row bits) f ≡ 0 = ap (λ n. bit_at n f) apart ∙ bit_at-zero f in
    let meet = bit_at_and row bits f in
    let small = bit_at-lt bits f in
    omega arith

pub none_of_either : (a b f : ℕ) → bit_at (bit_or a b) f ≡ 0 → (bit_at a f ≡ 0) × (bit_at b f ≡ 0)
none_of_either a b f none =
    let join = bit_at_or a b f in (omega arith, omega arith)

pub own_bit : (k : ℕ) → k < 64 → bit_at (1 * 2 ^ k % 2 ^ 64) k ≡ 1
own_bit k within = ap (λ n. bit_at n k) (one_whole k within) ∙ bit_at-pow_same k
