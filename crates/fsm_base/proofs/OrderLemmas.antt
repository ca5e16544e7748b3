-- Texts in the order of bytes: where the longest symbol stands that a text begins with.
use Rattle.std.proofs.Common.{◌≡◌, ℕ, ◌+◌, ◌<◌, zero, suc, Bool, true, false, cond, List, [], ◌∷◌, ◌++◌, length, take, drop, Contains, Ordering, nat_eq, refl, sym, ap, subst, ◌∙◌, arith, append_assoc, append-nil, length-append, true≢false}
use Rattle.std.specs.declared.cmp.Ordering.TheVariants.{Less, Equal, Greater}
use Rattle.std.proofs.lemmas.Bool.Decides.{Decides-eqb}
use Rattle.std.proofs.lemmas.Cmp.{ranked, upto, nat_cmp_total, nat_list_cmp_total, tied_itself}
use Rattle.std.specs.Cmp.Lexicographic.{slice_cmp}
use Rattle.std.proofs.lemmas.List.Folds.{length-prefix_len}
use Rattle.std.specs.List.{common_prefix_len, prefix_len, take_while, zip}
use Rattle.std.specs.Ordering.{nat_cmp, is_le, is_lt, is_gt, ordering_then, ordering_reverse, MatchOrdering}
use Rattle.fsm_base.specs.Longest.{BeginsWith, IsLongest, BeginsWithNone}
use Rattle.fsm_base.specs.Sorted.{IsUpTo, IsLastUpTo, NoneUpTo}

-- `is_le` is that the answer is not `Greater`
not_greater : (o : Ordering) → is_le o ≡ true → is_gt o ≡ false
not_greater Less h = refl
not_greater Equal h = refl
not_greater Greater h = cc

le_from_not_greater : (o : Ordering) → is_gt o ≡ false → is_le o ≡ true
le_from_not_greater Less h = refl
le_from_not_greater Equal h = refl
le_from_not_greater Greater h = cc

le_from_not_less : (o : Ordering) → is_lt o ≡ false → is_le (ordering_reverse o) ≡ true
le_from_not_less Less h = cc
le_from_not_less Equal h = refl
le_from_not_less Greater h = refl

pub IsUpTo-trans : (a b c : List ℕ) → IsUpTo a b → IsUpTo b c → IsUpTo a c
IsUpTo-trans a b c h k = le_from_not_greater _ (upto nat_list_cmp_total a b c (not_greater _ h) (not_greater _ k))

-- of two texts of which the first is not less, the second stands up to it
pub IsUpTo-from_not_less : (a b : List ℕ) → is_lt (slice_cmp nat_cmp a b) ≡ false → IsUpTo b a
IsUpTo-from_not_less a b h = subst (λ o. is_le o ≡ true) (sym (nat_list_cmp_total.antisymm b a)) (le_from_not_less _ h)

-- a front stands up to the text
pub IsUpTo-front : (s r : List ℕ) → IsUpTo s (s ++ r)
IsUpTo-front [] [] = refl
IsUpTo-front [] (y ∷ r) = refl
IsUpTo-front (x ∷ s) r = subst (λ o. is_le (ordering_then o (slice_cmp nat_cmp s (s ++ r))) ≡ true) (sym (tied_itself nat_cmp_total x)) (IsUpTo-front s r)

-- a text that stands from a front of a text on and up to that text begins with the front
pub begins_between : (s p r : List ℕ) → IsUpTo s p → IsUpTo p (s ++ r) → BeginsWith p s
begins_between [] p r h k = (p, refl)
begins_between (x ∷ s) [] r h k = cc
begins_between (x ∷ s) (y ∷ p) r h k = by (nat_cmp x y) refl (ranked x y (nat_cmp x y) refl) (begins_between s p r)
  where
    by : (o : Ordering) → nat_cmp x y ≡ o → MatchOrdering o (x < y) (x ≡ y) (y < x) → (IsUpTo s p → IsUpTo p (s ++ r) → BeginsWith p s) → BeginsWith (y ∷ p) (x ∷ s)
    by Less e below later =
        let back : nat_cmp y x ≡ Greater = nat_cmp_total.antisymm y x ∙ ap ordering_reverse e in
        let no : is_le (ordering_then Greater (slice_cmp nat_cmp p (s ++ r))) ≡ true = subst (λ o. is_le (ordering_then o (slice_cmp nat_cmp p (s ++ r))) ≡ true) back k in
        absurd (true≢false (sym no))
    by Equal e same later =
        let back : nat_cmp y x ≡ Equal = nat_cmp_total.antisymm y x ∙ ap ordering_reverse e in
        let rest = later (subst (λ o. is_le (ordering_then o (slice_cmp nat_cmp s p)) ≡ true) e h) (subst (λ o. is_le (ordering_then o (slice_cmp nat_cmp p (s ++ r))) ≡ true) back k) in
        (rest.0, λ i. sym same i ∷ rest.1 i)
    by Greater e above later =
        let no : is_le (ordering_then Greater (slice_cmp nat_cmp s p)) ≡ true = subst (λ o. is_le (ordering_then o (slice_cmp nat_cmp s p)) ≡ true) e h in
        absurd (true≢false (sym no))

-- what two texts share is a front of the second
pub take_front : (n : ℕ) (text : List ℕ) → text ≡ take n text ++ drop n text
take_front zero text = refl
take_front (suc n) [] = refl
take_front (suc n) (x ∷ text) = ap (λ (z : List ℕ). x ∷ z) (take_front n text)

-- a front of both is a front of what they share
pub begins_shared : (s q r : List ℕ) → BeginsWith (take (common_prefix_len nat_eq (s ++ q) (s ++ r)) (s ++ r)) s
begins_shared [] q r = (take (common_prefix_len nat_eq q r) r, refl)
begins_shared (x ∷ s) q r =
    let same : nat_eq x x ≡ true = (Decides-eqb x x).1 refl in
    let later = begins_shared s q r in
    let n = common_prefix_len nat_eq (s ++ q) (s ++ r) in
    let e : common_prefix_len nat_eq (x ∷ (s ++ q)) (x ∷ (s ++ r)) ≡ suc n = ap (λ b. cond b (1 + n) 0) same ∙ omega arith in
    (later.0, ap (λ k. take k (x ∷ (s ++ r))) e ∙ ap (λ (z : List ℕ). x ∷ z) later.1)

-- a text that is shared whole is a front
pub begins_from_shared : (p text : List ℕ) → common_prefix_len nat_eq p text ≡ length p → BeginsWith text p
begins_from_shared [] text e = (text, refl)
begins_from_shared (x ∷ p) [] e = absurd (omega arith)
begins_from_shared (x ∷ p) (y ∷ text) e = by (nat_eq x y) refl (begins_from_shared p text)
  where
    by : (b : Bool) → nat_eq x y ≡ b → (common_prefix_len nat_eq p text ≡ length p → BeginsWith text p) → BeginsWith (y ∷ text) (x ∷ p)
    by true test later =
        let n : 1 + common_prefix_len nat_eq p text ≡ length (x ∷ p) = sym (ap (λ b. cond b (1 + common_prefix_len nat_eq p text) 0) test) ∙ e in
        let rest = later (omega arith) in
        let same : y ≡ x = sym ((Decides-eqb x y).0 test) in
        (rest.0, λ i. same i ∷ rest.1 i)
    by false test later =
        let n : 0 ≡ length (x ∷ p) = sym (ap (λ b. cond b (1 + common_prefix_len nat_eq p text) 0) test) ∙ e in
        absurd (omega arith)

-- a text up to these bytes that is not shared whole does not share them whole
pub shared-lt : (p text : List ℕ) → IsUpTo p text → (common_prefix_len nat_eq p text ≡ length p → ⊥) → common_prefix_len nat_eq p text < length text
shared-lt [] text h part = absurd (part refl)
shared-lt (x ∷ p) [] h part = absurd (true≢false (sym h))
shared-lt (x ∷ p) (y ∷ text) h part = by (nat_eq x y) refl (shared-lt p text)
  where
    by : (b : Bool) → nat_eq x y ≡ b → (IsUpTo p text → (common_prefix_len nat_eq p text ≡ length p → ⊥) → common_prefix_len nat_eq p text < length text)
        → common_prefix_len nat_eq (x ∷ p) (y ∷ text) < length (y ∷ text)
    by true test later =
        let same : x ≡ y = (Decides-eqb x y).0 test in
        let tied : nat_cmp x y ≡ Equal = subst (λ v. nat_cmp x v ≡ Equal) same (tied_itself nat_cmp_total x) in
        let n : common_prefix_len nat_eq (x ∷ p) (y ∷ text) ≡ 1 + common_prefix_len nat_eq p text = ap (λ b. cond b (1 + common_prefix_len nat_eq p text) 0) test in
        let shorter : common_prefix_len nat_eq p text < length text = later (subst (λ o. is_le (ordering_then o (slice_cmp nat_cmp p text)) ≡ true) tied h) (λ e. part (omega (arith, n, e))) in
        omega arith
    by false test later =
        let n : common_prefix_len nat_eq (x ∷ p) (y ∷ text) ≡ 0 = ap (λ b. cond b (1 + common_prefix_len nat_eq p text) 0) test in
        omega arith

-- a front of these bytes that begins with every text that the bytes begin with
pub record IsNarrowed (texts : List (List ℕ)) (bytes front : List ℕ) : Type 0 where
  pub begins : BeginsWith bytes front
  pub keeps : (text : List ℕ) → Contains texts text → BeginsWith bytes text → BeginsWith front text

pub narrowed_at_start : (texts : List (List ℕ)) (bytes : List ℕ) → IsNarrowed texts bytes bytes
narrowed_at_start texts bytes = record { begins = ([], sym (append-nil bytes)); keeps = λ _ _ begins. begins }

-- a text that the front begins with stands up to the last text up to the front, and is a front of that
begins_last : (texts : List (List ℕ)) (front last text : List ℕ) → IsLastUpTo texts front last → Contains texts text → BeginsWith front text → BeginsWith last text
begins_last texts front last text is among b =
    let up : IsUpTo text front = subst (λ v. IsUpTo text v) (sym b.1) (IsUpTo-front text b.0) in
    begins_between text last b.0 (is.last text among up) (subst (λ v. IsUpTo last v) b.1 is.up_to)

-- so it is a front of what the two share
pub narrowed_more : (texts : List (List ℕ)) (bytes front last : List ℕ) → IsNarrowed texts bytes front → IsLastUpTo texts front last → IsNarrowed texts bytes (take (common_prefix_len nat_eq last front) front)
narrowed_more texts bytes front last narrowed is = record {
  begins =
      let n = common_prefix_len nat_eq last front in
      let b = narrowed.begins in
      (drop n front ++ b.0, b.1 ∙ ap (λ (z : List ℕ). z ++ b.0) (take_front n front) ∙ append_assoc (take n front) (drop n front) b.0);
  keeps = λ text among begins.
      let here = narrowed.keeps text among begins in
      let there = begins_last texts front last text is among here in
      subst (λ v. BeginsWith (take (common_prefix_len nat_eq v front) front) text) (sym there.1)
      (subst (λ v. BeginsWith (take (common_prefix_len nat_eq (text ++ there.0) v) v) text) (sym here.1) (begins_shared text there.0 here.0));
}

-- where the last text is a front, it is the longest
pub longest_from_last : (texts : List (List ℕ)) (bytes front last : List ℕ) → IsNarrowed texts bytes front → IsLastUpTo texts front last → common_prefix_len nat_eq last front ≡ length last → IsLongest texts bytes last
longest_from_last texts bytes front last narrowed is whole = record {
  listed = is.listed;
  begins =
      let inner = begins_from_shared last front whole in
      let outer = narrowed.begins in
      (inner.0 ++ outer.0, outer.1 ∙ ap (λ (z : List ℕ). z ++ outer.0) inner.1 ∙ append_assoc last inner.0 outer.0);
  longest = λ other among begins.
      let there = begins_last texts front last other is among (narrowed.keeps other among begins) in
      omega (arith, ap length there.1, length-append other there.0);
}

-- where no text stands up to the front, none begins it
pub none_from_none_up_to : (texts : List (List ℕ)) (bytes front : List ℕ) → IsNarrowed texts bytes front → NoneUpTo texts front → BeginsWithNone texts bytes
none_from_none_up_to texts bytes front narrowed none = λ text among begins.
    let here = narrowed.keeps text among begins in
    none text among (subst (λ v. IsUpTo text v) (sym here.1) (IsUpTo-front text here.0))

-- how many bytes two texts share, by the pairs that are alike
pub shared_is : (a b : List ℕ) → length (take_while (λ (pair : ℕ × ℕ). nat_eq pair.0 pair.1) (zip a b)) ≡ common_prefix_len nat_eq a b
shared_is a b = length-prefix_len (λ (pair : ℕ × ℕ). nat_eq pair.0 pair.1) (zip a b) ∙ alike a b
  where
    alike : (a b : List ℕ) → prefix_len (λ (pair : ℕ × ℕ). nat_eq pair.0 pair.1) (zip a b) ≡ common_prefix_len nat_eq a b
    alike [] b = refl
    alike (x ∷ a) [] = refl
    alike (x ∷ a) (y ∷ b) = ap (λ (n : ℕ). cond (nat_eq x y) (1 + n) 0) (alike a b)
