-- Splitting a list at the first element that doesn't pass.
use Rattle.std.proofs.Common.{◌≡◌, ℕ, zero, suc, get_or, ◌<◌, ◌≤◌, ◌+◌, Bool, true, false, cond, ◌&&◌, ◌==◌, List, [], ◌∷◌, ◌++◌, length, take, drop, refl, sym, ap, ◌∙◌, arith}
use Rattle.std.specs.List.{list_all, prefix_len}
use Rattle.std.proofs.lemmas.Bool.Decides.{nat_tests}
use Rattle.regex_tokens.specs.Bytes.{begins}
use Rattle.regex_tokens.specs.Reading.{taken, left}

pub and_left : (a b : Bool) → (a && b) ≡ true → a ≡ true
and_left true b e = refl
and_left false b e = e

pub and_right : (a b : Bool) → (a && b) ≡ true → b ≡ true
and_right true b e = e
and_right false b e = cc

pub and_true : (a b : Bool) → a ≡ true → b ≡ true → (a && b) ≡ true
and_true a b p q = rw (p, q) refl

pub suc_of : (n : ℕ) → 1 + n ≡ suc n
suc_of n = omega arith

pub take-prefix_len : {X : Type 0} (p : X → Bool) (xs : List X) → take (prefix_len p xs) xs ≡ taken p xs
take-prefix_len p [] = refl
take-prefix_len p (x ∷ xs) = elim (p x) as (λ b. take (cond b (1 + prefix_len p xs) 0) (x ∷ xs) ≡ cond b (x ∷ taken p xs) []) [
  | true ↦ rw suc_of (ap (λ ys. x ∷ ys) (take-prefix_len p xs))
  | false ↦ refl
]

pub drop-prefix_len : {X : Type 0} (p : X → Bool) (xs : List X) → drop (prefix_len p xs) xs ≡ left p xs
drop-prefix_len p [] = refl
drop-prefix_len p (x ∷ xs) = elim (p x) as (λ b. drop (cond b (1 + prefix_len p xs) 0) (x ∷ xs) ≡ cond b (left p xs) (x ∷ xs)) [
  | true ↦ rw suc_of (drop-prefix_len p xs)
  | false ↦ refl
]

-- how far the elements pass, of a place up to which each does
pub prefix_len_is : {X : Type 0} (p : X → Bool) (xs : List X) (d : X) (n : ℕ) → n ≤ length xs → ((k : ℕ) → k < n → p (get_or xs k d) ≡ true) → (n < length xs → p (get_or xs n d) ≡ false) → n ≡ prefix_len p xs
prefix_len_is p [] d n low before here = omega arith
prefix_len_is p (x ∷ xs) d zero low before here = let e : p x ≡ false = here (omega arith) in rw e refl
prefix_len_is p (x ∷ xs) d (suc n) low before here =
    let e : p x ≡ true = before 0 (omega arith) in
    let deeper : n ≡ prefix_len p xs = prefix_len_is p xs d n (omega arith) (λ k h. before (suc k) (omega arith)) (λ h. here (omega arith)) in
    rw (e, ← deeper) (omega arith)

pub list_all_weaker : {X : Type 0} (p q : X → Bool) → ((x : X) → p x ≡ true → q x ≡ true) → (xs : List X) → list_all p xs ≡ true → list_all q xs ≡ true
list_all_weaker p q weaker [] e = refl
list_all_weaker p q weaker (x ∷ xs) e = and_true _ _ (weaker x (and_left _ _ e)) (list_all_weaker p q weaker xs (and_right _ _ e))

pub taken-left : {X : Type 0} (p : X → Bool) (xs : List X) → taken p xs ++ left p xs ≡ xs
taken-left p [] = refl
taken-left p (x ∷ xs) = elim (p x) as (λ b. cond b (x ∷ taken p xs) [] ++ cond b (left p xs) (x ∷ xs) ≡ x ∷ xs) [
  | true ↦ ap (λ ys. x ∷ ys) (taken-left p xs)
  | false ↦ refl
]

all_taken_by : {X : Type 0} (p : X → Bool) (x : X) (xs : List X) (b : Bool) → p x ≡ b → list_all p (taken p xs) ≡ true → list_all p (cond b (x ∷ taken p xs) []) ≡ true
all_taken_by p x xs true e deeper = and_true _ _ e deeper
all_taken_by p x xs false e deeper = refl

pub list_all-taken : {X : Type 0} (p : X → Bool) (xs : List X) → list_all p (taken p xs) ≡ true
list_all-taken p [] = refl
list_all-taken p (x ∷ xs) = all_taken_by p x xs (p x) refl (list_all-taken p xs)

begins_left_by : {X : Type 0} (p : X → Bool) (x : X) (xs : List X) (b : Bool) → p x ≡ b → begins p (left p xs) ≡ false → begins p (cond b (left p xs) (x ∷ xs)) ≡ false
begins_left_by p x xs true e deeper = deeper
begins_left_by p x xs false e deeper = e

pub begins-left : {X : Type 0} (p : X → Bool) (xs : List X) → begins p (left p xs) ≡ false
begins-left p [] = refl
begins-left p (x ∷ xs) = begins_left_by p x xs (p x) refl (begins-left p xs)

taken_none : {X : Type 0} (p : X → Bool) (xs : List X) → begins p xs ≡ false → taken p xs ≡ []
taken_none p [] e = refl
taken_none p (x ∷ xs) e = rw e refl

left_all : {X : Type 0} (p : X → Bool) (xs : List X) → begins p xs ≡ false → left p xs ≡ xs
left_all p [] e = refl
left_all p (x ∷ xs) e = rw e refl

-- a front whose elements pass, before one that doesn't
pub taken-front : {X : Type 0} (p : X → Bool) (xs rest : List X) → list_all p xs ≡ true → begins p rest ≡ false → taken p (xs ++ rest) ≡ xs
taken-front p [] rest e stop = taken_none p rest stop
taken-front p (x ∷ xs) rest e stop =
    let here : p x ≡ true = and_left _ _ e in
    let deeper : taken p (xs ++ rest) ≡ xs = taken-front p xs rest (and_right (p x) _ e) stop in
    rw (here, deeper) refl

pub left-front : {X : Type 0} (p : X → Bool) (xs rest : List X) → list_all p xs ≡ true → begins p rest ≡ false → left p (xs ++ rest) ≡ rest
left-front p [] rest e stop = left_all p rest stop
left-front p (x ∷ xs) rest e stop =
    let here : p x ≡ true = and_left _ _ e in
    let deeper : left p (xs ++ rest) ≡ rest = left-front p xs rest (and_right (p x) _ e) stop in
    rw (here, deeper) refl

pub false_by : (b : Bool) → (b ≡ true → true ≡ false) → b ≡ false
false_by true clash = let e : true ≡ false = clash refl in absurd cc
false_by false clash = refl

-- a list is split in one way at the first element that doesn't pass
pub split_once : {X : Type 0} (p : X → Bool) (xs ys a b : List X) → list_all p xs ≡ true → list_all p ys ≡ true → begins p a ≡ false → begins p b ≡ false → xs ++ a ≡ ys ++ b → (xs ≡ ys) × (a ≡ b)
split_once p xs ys a b all_x all_y stop_a stop_b e = (
  sym (taken-front p xs a all_x stop_a) ∙ ap (taken p) e ∙ taken-front p ys b all_y stop_b,
  sym (left-front p xs a all_x stop_a) ∙ ap (left p) e ∙ left-front p ys b all_y stop_b,
)

pub some_of : (n : ℕ) → (n == 0) ≡ false → 0 < n
some_of n e = grind (arith, nat_tests)

pub none_of : (n : ℕ) → (n == 0) ≡ true → n ≡ 0
none_of n e = grind (arith, nat_tests)
