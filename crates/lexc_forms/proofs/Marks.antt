-- A flag begins and ends with `@` and has no other, so at most one front of a text is a flag.
use Rattle.std.proofs.Common.{◌≡◌, ◌≢◌, ◌+◌, ◌<◌, ◌≤◌, ◌/◌, ◌%◌, ◌==◌, nat_lt, ℕ, zero, suc, Bool, cond, true, false, List, [], ◌∷◌, ◌++◌, length, take, drop, Some, refl, sym, ap, subst, ◌∙◌, arith, length-append, append_assoc}
use Rattle.std.specs.List.{list_any, position}
use Rattle.std.specs.Char.{encode_utf8}
use Rattle.std.specs.Str.{encode_utf8_all}
use lib.Utf8.{encode}
use Rattle.std.proofs.lemmas.Bool.Decides.{Decides-eqb}
use Rattle.std.proofs.lemmas.List.{length-take-le, take-append-drop}
use Rattle.std.proofs.lemmas.List.Elements.{All-nil, All-cons, All-head, All-tail}
use Rattle.std.proofs.lemmas.Str.{encode_ascii, cons_from_encodes, encodes_same}
use Rattle.regex_ast.specs.Flags.{IsFlag}
use Rattle.regex_ast.specs.declared.lexc.FlagOp.{FlagOp}
use Rattle.flag_texts.specs.Reading.{HasNo, IsFlagOf}
use Rattle.flag_texts.proofs.Shapes.{no_between}
use Rattle.lexc_forms.specs.Letters.{is_mark}
use Rattle.lexc_forms.specs.Fronts.{IsMarked, IsOnlyMarked, HasNoMarked, HasNoFlag, IsFlagFront}
use Rattle.lexc_forms.proofs.Positions.{FirstAt, first_at, none_in_front, one_first, any_inside, or_none}

abbrev apart : ℕ → Type 0
apart b = b ≢ 64

-- bytes that go on with a character
high-cons : (b : ℕ) (bs : List ℕ) → 64 < b → HasNo 64 bs → HasNo 64 (b ∷ bs)
high-cons b bs high none = All-cons apart b bs (λ e. absurd (omega arith)) none

last : (x : ℕ) → HasNo 64 ((128 + x % 64) ∷ [])
last x = high-cons (128 + x % 64) [] (omega arith) (All-nil apart)

next_last : (y x : ℕ) → HasNo 64 ((128 + y % 64) ∷ (128 + x % 64) ∷ [])
next_last y x = high-cons (128 + y % 64) ((128 + x % 64) ∷ []) (omega arith) (last x)

-- no byte of another character is an `@`
encode_apart : (c : ℕ) → c ≢ 64 → HasNo 64 (encode c)
unfolding encode
encode_apart c other = by (nat_lt c 128) (nat_lt c 2048) (nat_lt c 65536)
  where
    by : (one two three : Bool) → HasNo 64 (cond one (c ∷ []) (cond two ((192 + c / 64) ∷ (128 + c % 64) ∷ []) (cond three ((224 + c / 4096) ∷ (128 + (c / 64) % 64) ∷ (128 + c % 64) ∷ []) ((240 + c / 262144) ∷ (128 + (c / 4096) % 64) ∷ (128 + (c / 64) % 64) ∷ (128 + c % 64) ∷ []))))
    by true two three = All-cons apart c [] other (All-nil apart)
    by false true three = high-cons (192 + c / 64) ((128 + c % 64) ∷ []) (omega arith) (last c)
    by false false true = high-cons (224 + c / 4096) ((128 + (c / 64) % 64) ∷ (128 + c % 64) ∷ []) (omega arith) (next_last (c / 64) c)
    by false false false = high-cons (240 + c / 262144) ((128 + (c / 4096) % 64) ∷ (128 + (c / 64) % 64) ∷ (128 + c % 64) ∷ []) (omega arith) (high-cons (128 + (c / 4096) % 64) ((128 + (c / 64) % 64) ∷ (128 + c % 64) ∷ []) (omega arith) (next_last (c / 64) c))

-- what stands before the first `@`, without its first bytes
record Stripped (xs ys inner : List ℕ) : Type 0 where
  rest : List ℕ
  rest_is : HasNo 64 rest
  behind : ys ≡ rest ++ 64 ∷ []

strip : (xs ys inner : List ℕ) → HasNo 64 xs → HasNo 64 inner → xs ++ ys ≡ inner ++ 64 ∷ [] → Stripped xs ys inner
strip [] ys inner none_xs none e = record { rest = inner; rest_is = none; behind = e }
strip (x ∷ xs) ys [] none_xs none e = let same : x ≡ 64 = cc in absurd (All-head apart x xs none_xs same)
strip (x ∷ xs) ys (i ∷ inner) none_xs none e =
    let others : xs ++ ys ≡ inner ++ 64 ∷ [] = cc in
    let more = strip xs ys inner (All-tail apart x xs none_xs) (All-tail apart i inner none) others in
    record { rest = more.rest; rest_is = more.rest_is; behind = more.behind }

record EndsMarked (cs : List ℕ) : Type 0 where
  inner : List ℕ
  split : cs ≡ inner ++ 64 ∷ []
  none : list_any is_mark inner ≡ false

no_bytes : (cs : List ℕ) → encode_utf8_all cs ≡ [] → cs ≡ []
no_bytes cs e = encodes_same cs [] e

ends_marked : (cs inner : List ℕ) → HasNo 64 inner → encode_utf8_all cs ≡ inner ++ 64 ∷ [] → EndsMarked cs
ends_marked [] inner none e = absurd (omega (arith, ap length e, length-append inner (64 ∷ [])))
ends_marked (c ∷ cs) inner none e = by (c == 64) refl (ends_marked cs)
  where
    here : c ≡ 64 → (xs : List ℕ) → xs ≡ inner → EndsMarked (c ∷ cs)
    here is [] same =
        let one : encode_utf8 c ++ encode_utf8_all cs ≡ 64 ∷ encode_utf8_all cs = ap (λ (n : ℕ). encode_utf8 n ++ encode_utf8_all cs) is ∙ ap (λ (z : List ℕ). z ++ encode_utf8_all cs) (encode_ascii 64 (omega arith)) in
        let whole : 64 ∷ encode_utf8_all cs ≡ 64 ∷ [] = sym one ∙ e ∙ ap (λ (z : List ℕ). z ++ 64 ∷ []) (sym same) in
        let bytes : encode_utf8_all cs ≡ [] = cc in
        record { inner = []; split = ap (λ (n : ℕ). n ∷ cs) is ∙ ap (λ (z : List ℕ). 64 ∷ z) (no_bytes cs bytes); none = refl }
    here is (i ∷ xs) same =
        let one : encode_utf8 c ++ encode_utf8_all cs ≡ 64 ∷ encode_utf8_all cs = ap (λ (n : ℕ). encode_utf8 n ++ encode_utf8_all cs) is ∙ ap (λ (z : List ℕ). z ++ encode_utf8_all cs) (encode_ascii 64 (omega arith)) in
        let whole : 64 ∷ encode_utf8_all cs ≡ i ∷ (xs ++ 64 ∷ []) = sym one ∙ e ∙ ap (λ (z : List ℕ). z ++ 64 ∷ []) (sym same) in
        let first : i ≡ 64 = cc in
        absurd (All-head apart i xs (subst (HasNo 64) (sym same) none) first)

    by : (b : Bool) → (c == 64) ≡ b → ((inner : List ℕ) → HasNo 64 inner → encode_utf8_all cs ≡ inner ++ 64 ∷ [] → EndsMarked cs) → EndsMarked (c ∷ cs)
    by true is more = here ((Decides-eqb c 64).0 is) inner refl
    by false is more =
        let other : c ≢ 64 = λ same. (let clash : true ≡ false = sym ((Decides-eqb c 64).1 same) ∙ is in cc) in
        let stripped = strip (encode_utf8 c) (encode_utf8_all cs) inner (encode_apart c other) none e in
        let behind = more stripped.rest stripped.rest_is stripped.behind in
        record { inner = c ∷ behind.inner; split = ap (λ (z : List ℕ). c ∷ z) behind.split; none = or_none (c == 64) (list_any is_mark behind.inner) is behind.none }

-- characters whose text is marked by `@` are marked by it
pub marked_characters : (cs inner : List ℕ) → HasNo 64 inner → encode_utf8_all cs ≡ 64 ∷ inner ++ 64 ∷ [] → IsMarked cs
marked_characters cs inner none e =
    let one : encode_utf8_all cs ≡ encode_utf8 64 ++ (inner ++ 64 ∷ []) = e ∙ ap (λ (z : List ℕ). z ++ (inner ++ 64 ∷ [])) (sym (encode_ascii 64 (omega arith))) in
    let front = cons_from_encodes cs (inner ++ 64 ∷ []) 64 one in
    let ends = ends_marked front.0 inner none front.2 in
    (ends.inner, front.1 ∙ ap (λ (z : List ℕ). 64 ∷ z) ends.split, ends.none)

pub same_by : (m n : ℕ) → ((m ≡ n → ⊥) → ⊥) → m ≡ n
same_by m n twice = by (m == n) refl
  where
    by : (b : Bool) → (m == n) ≡ b → m ≡ n
    by true is = (Decides-eqb m n).0 is
    by false is = absurd (twice (λ e. let clash : true ≡ false = sym ((Decides-eqb m n).1 e) ∙ is in cc))

-- a flag is marked by `@`
pub flag_not_unmarked : (cs : List ℕ) → IsFlag (encode_utf8_all cs) → (IsMarked cs → ⊥) → ⊥
flag_not_unmarked cs flag unmarked = no_between (encode_utf8_all cs) flag (λ inner none e. unmarked (marked_characters cs inner none e))

pub unmarked_no_flag : (text : List ℕ) → HasNoMarked text → HasNoFlag text
unmarked_no_flag text none m within flag = flag_not_unmarked (take m text) flag (none m within)

pub only_flag : (text : List ℕ) (n : ℕ) → IsOnlyMarked text n → (m : ℕ) → m ≤ length text → IsFlag (encode_utf8_all (take m text)) → m ≡ n
only_flag text n marked m within flag = same_by m n (λ apart. flag_not_unmarked (take m text) flag (λ is. apart (marked.only m within is)))

-- The front from an `@` to the next one.

pub no_text : (text : List ℕ) → text ≡ [] → HasNoMarked text
no_text text none m within marked = by m (subst (λ (t : List ℕ). take m t ≡ 64 ∷ marked.0 ++ 64 ∷ []) none marked.1)
  where
    by : (m : ℕ) → take m [] ≡ 64 ∷ marked.0 ++ 64 ∷ [] → ⊥
    by zero e = cc
    by (suc m) e = cc

module _ (text : List ℕ) (first : ℕ) (rest : List ℕ) (split : text ≡ first ∷ rest) where
  pub other_first : first ≢ 64 → HasNoMarked text
  other_first other m within marked = by m (subst (λ (t : List ℕ). take m t ≡ 64 ∷ marked.0 ++ 64 ∷ []) split marked.1)
    where
      by : (m : ℕ) → take m (first ∷ rest) ≡ 64 ∷ marked.0 ++ 64 ∷ [] → ⊥
      by zero e = cc
      by (suc m) e = let same : first ≡ 64 = cc in other same

  pub no_other_mark : list_any is_mark rest ≡ false → HasNoMarked text
  no_other_mark none m within marked = by m (subst (λ (t : List ℕ). take m t ≡ 64 ∷ marked.0 ++ 64 ∷ []) split marked.1)
    where
      by : (m : ℕ) → take m (first ∷ rest) ≡ 64 ∷ marked.0 ++ 64 ∷ [] → ⊥
      by zero e = cc
      by (suc m) e =
          let others : take m rest ≡ marked.0 ++ 64 ∷ [] = cc in
          any_inside is_mark marked.0 [] 64 refl (sym (ap (list_any is_mark) others) ∙ none_in_front is_mark rest m none)

  front_len : (k place : ℕ) (inner : List ℕ) → k ≤ length rest → FirstAt is_mark rest place → take k rest ≡ inner ++ 64 ∷ [] → list_any is_mark inner ≡ false → k ≡ place + 1
  front_len k place inner within at e none =
      let whole : inner ++ 64 ∷ drop k rest ≡ take place rest ++ at.element ∷ drop 1 (drop place rest) =
      sym (append_assoc inner (64 ∷ []) (drop k rest)) ∙ ap (λ (z : List ℕ). z ++ drop k rest) (sym e) ∙ take-append-drop k rest ∙ at.split in
      let same : inner ≡ take place rest = (one_first is_mark inner (take place rest) (drop k rest) (drop 1 (drop place rest)) 64 at.element none at.before refl at.passes whole).0 in
      omega (arith, ap length same, length-take-le place rest (omega (arith, at.within)), ap length e, length-append inner (64 ∷ []), length-take-le k rest within)

  pub marked_front : first ≡ 64 → (place : ℕ) → position is_mark rest ≡ Some place → IsOnlyMarked text (place + 2)
  marked_front is place found =
      let at = first_at is_mark rest place found in
      record {
        some = omega arith;
        within = omega (arith, at.within, ap length split);
        only = λ m within marked. by m (subst (λ (t : List ℕ). m ≤ length t) split within) marked (subst (λ (t : List ℕ). take m t ≡ 64 ∷ marked.0 ++ 64 ∷ []) split marked.1);
      }
    where
      by : (m : ℕ) → m ≤ length (first ∷ rest) → (marked : IsMarked (take m text)) → take m (first ∷ rest) ≡ 64 ∷ marked.0 ++ 64 ∷ [] → m ≡ place + 2
      by zero within marked e = absurd cc
      by (suc m) within marked e =
          let others : take m rest ≡ marked.0 ++ 64 ∷ [] = cc in
          omega (arith, front_len m place marked.0 (omega arith) (first_at is_mark rest place found) others marked.2)

-- What the text of a front says of the text.
module _ (text : List ℕ) (n : ℕ) (marked : IsOnlyMarked text n) (front bytes : List ℕ) (front_is : front ≡ take n text) (bytes_are : bytes ≡ encode_utf8_all front) where
  pub no_flag_front : (IsFlag bytes → ⊥) → HasNoFlag text
  no_flag_front none m within flag =
      let same : m ≡ n = only_flag text n marked m within flag in
      none (subst IsFlag (sym (bytes_are ∙ ap encode_utf8_all front_is)) (subst (λ (k : ℕ). IsFlag (encode_utf8_all (take k text))) same flag))

  pub is_flag_front : (flag : FlagOp) → IsFlagOf bytes flag → IsFlagFront text flag n
  is_flag_front flag is = record {
    some = marked.some;
    within = marked.within;
    flag_is = subst (λ (b : List ℕ). IsFlagOf b flag) (bytes_are ∙ ap encode_utf8_all front_is) is;
    only = only_flag text n marked;
  }
