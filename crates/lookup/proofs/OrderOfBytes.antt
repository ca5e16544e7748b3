-- The order of bytes: what stands before a text, and the number that a text is worth.
use Rattle.std.proofs.Common.{◌≡◌, ℕ, zero, suc, ◌+◌, ◌*◌, ◌-◌, ◌<◌, ◌≤◌, ◌⊎◌, List, [], ◌∷◌, ◌++◌, Some, length, refl, sym, subst, ap, inl, inr, arith, ◌∙◌, append_assoc, length-append, nat_lt, ◌==◌, true, false}
use Rattle.std.proofs.lemmas.Bool.{cases_lt}
use Rattle.std.proofs.lemmas.Bool.Decides.{nat_tests}
use Rattle.std.specs.List.{slice_get}
use Rattle.std.specs.declared.cmp.Ordering.TheVariants.{Less}
use Rattle.std.specs.Cmp.Lexicographic.{slice_cmp}
use Rattle.std.specs.Ordering.{nat_cmp}
use Rattle.std.proofs.Math.Nat.{mul-le-mul_right}
use Rattle.lookup.specs.Walks.{IsBefore}

pub before_trans : (t u v : List ℕ) → IsBefore t u → IsBefore u v → IsBefore t v
before_trans t u [] h k = k
before_trans t [] (c ∷ v) h k = absurd h
before_trans [] (b ∷ u) (c ∷ v) h k = tt
before_trans (a ∷ t) (b ∷ u) (c ∷ v) (inl l) (inl m) = inl (omega arith)
before_trans (a ∷ t) (b ∷ u) (c ∷ v) (inl l) (inr m) = inl (let e = m.0 in omega arith)
before_trans (a ∷ t) (b ∷ u) (c ∷ v) (inr l) (inl m) = inl (let e = l.0 in omega arith)
before_trans (a ∷ t) (b ∷ u) (c ∷ v) (inr l) (inr m) = inr (l.0 ∙ m.0, before_trans t u v l.1 m.1)

pub before_never : (t : List ℕ) → IsBefore t t → ⊥
before_never [] h = h
before_never (a ∷ t) (inl l) = omega arith
before_never (a ∷ t) (inr l) = before_never t l.1

pub before_append : (front u v : List ℕ) → IsBefore u v → IsBefore (front ++ u) (front ++ v)
before_append [] u v h = h
before_append (a ∷ front) u v h = inr (refl, before_append front u v h)

pub before_less : (u v : List ℕ) → IsBefore u v → slice_cmp nat_cmp u v ≡ Less
before_less u [] h = absurd h
before_less [] (b ∷ v) h = refl
before_less (a ∷ u) (b ∷ v) (inl l) = let e : nat_lt a b ≡ true = grind (arith, nat_tests) in rw e
before_less (a ∷ u) (b ∷ v) (inr l) =
    let e : nat_lt a b ≡ false = let s = l.0 in grind (arith, nat_tests) in
    let f : (a == b) ≡ true = let s = l.0 in grind (arith, nat_tests) in
    rw (e, f) (before_less u v l.1)

-- a text that goes on behind another with a byte of a range
abbrev pub GoesOn : List ℕ → List ℕ → ℕ → Type 0
GoesOn text other floor = (byte : ℕ) × (rest : List ℕ) × (other ≡ text ++ byte ∷ rest) × (floor ≤ byte)

-- what stands before a text with a byte more
pub before_enter : (text other : List ℕ) (floor byte : ℕ) → IsBefore other (text ++ byte ∷ 0 ∷ [])
    → IsBefore other (text ++ floor ∷ []) ⊎ ((other ≡ text ++ byte ∷ []) ⊎ ((c : ℕ) × (rest : List ℕ) × (other ≡ text ++ c ∷ rest) × (floor ≤ c) × (c < byte)))
before_enter [] [] floor byte h = inl tt
before_enter [] (x ∷ []) floor byte (inl l) = elim (cases_lt x floor) [ inl m ↦ inl (inl m) | inr m ↦ inr (inr (x, [], refl, m, l)) ]
before_enter [] (x ∷ y ∷ ys) floor byte (inl l) = elim (cases_lt x floor) [ inl m ↦ inl (inl m) | inr m ↦ inr (inr (x, y ∷ ys, refl, m, l)) ]
before_enter [] (x ∷ []) floor byte (inr l) = inr (inl (ap (λ n. n ∷ []) l.0))
before_enter [] (x ∷ y ∷ ys) floor byte (inr (e, inl l)) = absurd (omega arith)
before_enter [] (x ∷ y ∷ ys) floor byte (inr (e, inr l)) = absurd l.1
before_enter (z ∷ text) [] floor byte h = inl tt
before_enter (z ∷ text) (x ∷ xs) floor byte (inl l) = inl (inl l)
before_enter (z ∷ text) (x ∷ xs) floor byte (inr (e, l)) = elim (before_enter text xs floor byte l) [
  | inl m ↦ inl (inr (e, m))
  | inr (inl m) ↦ inr (inl (cc))
  | inr (inr (c, rest, is, low, high)) ↦ inr (inr (c, rest, (let same : x ∷ xs ≡ z ∷ (text ++ c ∷ rest) = cc in same), low, high))
]

-- what stands before a text with its last byte raised
pub before_leave : (text other : List ℕ) (byte floor : ℕ) → IsBefore other (text ++ (byte + 1) ∷ [])
    → IsBefore other (text ++ byte ∷ floor ∷ []) ⊎ ((c : ℕ) × (rest : List ℕ) × (other ≡ text ++ byte ∷ c ∷ rest) × (floor ≤ c))
before_leave [] [] byte floor h = inl tt
before_leave [] (x ∷ xs) byte floor (inl l) = at xs (cases_lt x byte) l where
  at : (xs : List ℕ) → (x < byte) ⊎ (byte ≤ x) → x < byte + 1 → IsBefore (x ∷ xs) (byte ∷ floor ∷ []) ⊎ ((c : ℕ) × (rest : List ℕ) × (x ∷ xs ≡ byte ∷ c ∷ rest) × (floor ≤ c))
  at xs (inl m) l = inl (inl m)
  at [] (inr m) l = inl (inr (omega arith, tt))
  at (y ∷ ys) (inr m) l =
      let e : x ≡ byte = omega arith in
      elim (cases_lt y floor) [ inl k ↦ inl (inr (e, inl k)) | inr k ↦ inr (y, ys, ap (λ n. n ∷ y ∷ ys) e, k) ]
before_leave [] (x ∷ []) byte floor (inr l) = absurd l.1
before_leave [] (x ∷ y ∷ ys) byte floor (inr l) = absurd l.1
before_leave (z ∷ text) [] byte floor h = inl tt
before_leave (z ∷ text) (x ∷ xs) byte floor (inl l) = inl (inl l)
before_leave (z ∷ text) (x ∷ xs) byte floor (inr (e, l)) = elim (before_leave text xs byte floor l) [
  | inl m ↦ inl (inr (e, m))
  | inr (c, rest, is, low) ↦ inr (c, rest, (let same : x ∷ xs ≡ z ∷ (text ++ byte ∷ c ∷ rest) = cc in same), low)
]

-- every text stands before a byte, or begins with it or a greater one
pub before_last : (other : List ℕ) (floor : ℕ) → IsBefore other (floor ∷ []) ⊎ ((c : ℕ) × (rest : List ℕ) × (other ≡ c ∷ rest) × (floor ≤ c))
before_last [] floor = inl tt
before_last (x ∷ xs) floor = elim (cases_lt x floor) [ inl m ↦ inl (inl m) | inr m ↦ inr (x, xs, refl, m) ]

-- the two moves of a walk raise where it stands
pub enter_rises : (text : List ℕ) (floor byte : ℕ) → floor ≤ byte → IsBefore (text ++ floor ∷ []) ((text ++ byte ∷ []) ++ 0 ∷ [])
enter_rises text floor byte low = rw append_assoc (before_append text (floor ∷ []) (byte ∷ 0 ∷ []) (elim (cases_lt floor byte) [ inl l ↦ inl l | inr l ↦ inr (omega arith, tt) ]))

pub leave_rises : (text : List ℕ) (floor byte : ℕ) → IsBefore ((text ++ byte ∷ []) ++ floor ∷ []) (text ++ (byte + 1) ∷ [])
leave_rises text floor byte = rw append_assoc (before_append text (byte ∷ floor ∷ []) ((byte + 1) ∷ []) (inl (omega arith)))

-- a text as a number with so many digits, of which each may be from 0 to 257: a byte and one more
abbrev pub room : ℕ → ℕ
room zero = 1
room (suc n) = 258 * room n

abbrev pub value : ℕ → List ℕ → ℕ
value n [] = 0
value zero (x ∷ xs) = 0
value (suc n) (x ∷ xs) = (x + 1) * room n + value n xs

abbrev pub AreSmall : List ℕ → Type 0
AreSmall [] = Unit {0}
AreSmall (x ∷ xs) = (x ≤ 256) × AreSmall xs

pub small_from : (text : List ℕ) (floor : ℕ) → ((k byte : ℕ) → slice_get text k ≡ Some byte → byte < 256) → floor ≤ 256 → AreSmall (text ++ floor ∷ [])
small_from [] floor small low = (low, tt)
small_from (x ∷ xs) floor small low = (let l = small 0 x refl in omega arith, small_from xs floor (λ k byte h. small (suc k) byte h) low)

room_some : (n : ℕ) → 0 < room n
room_some zero = omega arith
room_some (suc n) = let l = room_some n in omega arith

value_below : (n : ℕ) (w : List ℕ) → AreSmall w → value n w < room n
value_below n [] s = room_some n
value_below zero (x ∷ xs) s = omega arith
value_below (suc n) (x ∷ xs) s =
    let rest = value_below n xs s.1 in
    let l = s.0 in
    let few : x + 2 ≤ 258 = omega arith in
    let m = mul-le-mul_right (room n) few in omega arith

pub value_rises : (n : ℕ) (u v : List ℕ) → length v ≤ n → length u ≤ n → AreSmall u → IsBefore u v → value n u < value n v
value_rises n u [] lv lu s h = absurd h
value_rises zero u (y ∷ ys) lv lu s h = absurd (omega arith)
value_rises (suc n) [] (y ∷ ys) lv lu s h =
    let p = room_some n in
    let one : 1 ≤ y + 1 = omega arith in
    let m = mul-le-mul_right (room n) one in omega arith
value_rises (suc n) (x ∷ xs) (y ∷ ys) lv lu s (inl l) =
    let rest = value_below n xs s.1 in
    let more : x + 2 ≤ y + 1 = omega arith in
    let m = mul-le-mul_right (room n) more in omega arith
value_rises (suc n) (x ∷ xs) (y ∷ ys) lv lu s (inr (e, l)) =
    let rest = value_rises n xs ys (omega arith) (omega arith) s.1 l in
    let same : (x + 1) * room n ≡ (y + 1) * room n = ap (λ k. (k + 1) * room n) e in omega arith

-- how far a walk may still rise
abbrev pub left : ℕ → List ℕ → ℕ
left bound w = room (suc bound) - value (suc bound) w

pub left_falls : (bound : ℕ) (u v : List ℕ) → length u ≤ suc bound → length v ≤ suc bound → AreSmall u → AreSmall v → IsBefore u v → left bound v < left bound u
left_falls bound u v lu lv su sv h =
    let r = value_rises (suc bound) u v lv lu su h in
    let b = value_below (suc bound) v sv in omega arith

-- the moves of a walk leave less
pub enter_left : (bound : ℕ) (text : List ℕ) (floor byte : ℕ) → length (text ++ byte ∷ []) ≤ bound → ((k b : ℕ) → slice_get text k ≡ Some b → b < 256) → floor ≤ 256
    → ((k b : ℕ) → slice_get (text ++ byte ∷ []) k ≡ Some b → b < 256) → floor ≤ byte → left bound ((text ++ byte ∷ []) ++ 0 ∷ []) < left bound (text ++ floor ∷ [])
enter_left bound text floor byte short small small_floor small_more low =
    let l = length-append text (byte ∷ []) in
    let m = length-append text (floor ∷ []) in
    let n = length-append (text ++ byte ∷ []) (0 ∷ []) in
    left_falls bound (text ++ floor ∷ []) ((text ++ byte ∷ []) ++ 0 ∷ []) (omega arith) (omega arith) (small_from text floor small small_floor)
    (small_from (text ++ byte ∷ []) 0 small_more (omega arith)) (enter_rises text floor byte low)

pub leave_left : (bound : ℕ) (text front : List ℕ) (floor byte : ℕ) → text ≡ front ++ byte ∷ [] → length text ≤ bound → ((k b : ℕ) → slice_get text k ≡ Some b → b < 256) → floor ≤ 256
    → ((k b : ℕ) → slice_get front k ≡ Some b → b < 256) → byte + 1 ≤ 256 → left bound (front ++ (byte + 1) ∷ []) < left bound (text ++ floor ∷ [])
leave_left bound text front floor byte is short small small_floor small_front small_byte =
    let l = length-append front (byte ∷ []) in
    let e = ap length is in
    let m = length-append text (floor ∷ []) in
    let n = length-append front ((byte + 1) ∷ []) in
    left_falls bound (text ++ floor ∷ []) (front ++ (byte + 1) ∷ []) (omega arith) (omega arith) (small_from text floor small small_floor)
    (small_from front (byte + 1) small_front small_byte) (subst (λ t. IsBefore (t ++ floor ∷ []) (front ++ (byte + 1) ∷ [])) (sym is) (leave_rises front floor byte))
