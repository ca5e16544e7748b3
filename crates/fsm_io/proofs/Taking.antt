-- What is put behind a caller's bytes, from piece to piece.
use Rattle.std.proofs.Common.{◌≡◌, ℕ, zero, suc, ◌-◌, min, Bool, true, false, List, [], ◌∷◌, ◌++◌, length, take, Option, Ok, Err, refl, sym, ap, ◌∙◌, append_assoc, append-nil, arith, length-append, length-take}
use Rattle.std.proofs.lemmas.List.{take-append-le}
use Rattle.fsm_io.specs.Buffers.{BufferView}
use Rattle.fsm_io.specs.Reading.{LinesView, IsLineEvent}
use Rattle.fsm_io.specs.Taking.{filled, NextInto, Puts, PutsNext, TakesLine}
use Rattle.fsm_io.specs.declared.lines.LineEvent.{LineEvent}
use Rattle.fsm_io.specs.declared.lines.LineEvent.TheVariants.{Line, Long, End, Failed, Over}
use Rattle.fsm_io.proofs.Gathering.{Gathering}

take_none : (n : ℕ) → take {A = ℕ} n [] ≡ []
take_none zero = refl
take_none (suc n) = refl

-- a front of both, the first as far as it goes
front_of_both : (n : ℕ) (xs ys : List ℕ) → take n (xs ++ ys) ≡ take n xs ++ take (n - length xs) ys
front_of_both n [] ys =
    let same : n ≡ n - 0 = omega arith in
    ap (λ (m : ℕ). take m ys) same ∙ ap (λ (l : List ℕ). l ++ take (n - 0) ys) (sym (take_none n))
front_of_both zero (x ∷ xs) ys =
    let none : 0 ≡ 0 - suc (length xs) = omega arith in
    ap (λ (m : ℕ). take m ys) none
front_of_both (suc n) (x ∷ xs) ys =
    let rest : n - length xs ≡ suc n - suc (length xs) = omega arith in
    ap (λ (l : List ℕ). x ∷ l) (front_of_both n xs ys) ∙ ap (λ (m : ℕ). x ∷ (take n xs ++ take m ys)) rest

-- a front has no more than there are
take_inside : (n : ℕ) (xs : List ℕ) → take n xs ≡ take (min n (length xs)) xs
take_inside n [] = take_none n ∙ sym (take_none (min n 0))
take_inside zero (x ∷ xs) =
    let none : 0 ≡ min 0 (suc (length xs)) = omega arith in
    ap (λ (m : ℕ). take m (x ∷ xs)) none
take_inside (suc n) (x ∷ xs) =
    let more : suc (min n (length xs)) ≡ min (suc n) (suc (length xs)) = omega arith in
    ap (λ (l : List ℕ). x ∷ l) (take_inside n xs) ∙ ap (λ (m : ℕ). take m (x ∷ xs)) more

filled_more : (keep : ℕ) (into a b : List ℕ) → filled keep (filled keep into a) b ≡ filled keep into (a ++ b)
filled_more keep into a b =
    let room = keep - length into in
    let left : keep - length (into ++ take room a) ≡ room - length a = omega (arith, length-append into (take room a), length-take room a) in
    append_assoc into (take room a) (take (keep - length (into ++ take room a)) b)
    ∙ ap (λ (l : List ℕ). into ++ l) (ap (λ (n : ℕ). take room a ++ take n b) left ∙ sym (front_of_both room a b))

pub puts_nothing : (keep : ℕ) (into : List ℕ) (lacks : Bool) → Puts keep into [] into lacks
puts_nothing keep into lacks = record {
  whole = λ _. sym (ap (λ (l : List ℕ). into ++ l) (take_none (keep - length into)) ∙ append-nil into);
  count = 0;
  inside = omega arith;
  few = omega arith;
  front = sym (append-nil into);
}

whole_front : (keep : ℕ) (into0 bytes into : List ℕ) → into ≡ filled keep into0 bytes → Puts keep into0 bytes into false
whole_front keep into0 bytes into is = record {
  whole = λ _. is;
  count = min (keep - length into0) (length bytes);
  inside = omega arith;
  few = omega arith;
  front = is ∙ ap (λ (l : List ℕ). into0 ++ l) (take_inside (keep - length into0) bytes);
}

pub puts_more : (keep : ℕ) (into0 a into1 b into : List ℕ) (lacks1 lacks : Bool) → Puts keep into0 a into1 lacks1 → PutsNext keep into1 b into lacks1 lacks → Puts keep into0 (a ++ b) into lacks
puts_more keep into0 a into1 b into lacks1 true before next = record {
  whole = λ is. cc;
  count = before.count;
  inside = omega (arith, before.inside, length-append a b);
  few = before.few;
  front = next ∙ before.front ∙ ap (λ (l : List ℕ). into0 ++ l) (sym (take-append-le before.count a b before.inside));
}
puts_more keep into0 a into1 b into lacks1 false before next =
    whole_front keep into0 (a ++ b) into (next.1 ∙ ap (λ (l : List ℕ). filled keep l b) (before.whole next.0) ∙ filled_more keep into0 a b)

-- the same from read to read
pub record GatheringInto (left0 left : Option (List ℕ)) (budget0 budget : ℕ) (line0 line : BufferView) (held0 held : List ℕ) (keep : ℕ) (into0 into : List ℕ) (lacks : Bool) : Type 0 where
  pub gathering : Gathering left0 left budget0 budget line0 line held0 held
  pub puts : Puts keep into0 gathering.piece into lacks

-- ---- what is answered

module _ {E : Type 0} (left0 left : Option (List ℕ)) (old new : LinesView) (keep : ℕ) (into0 into1 into : List ℕ) (lacks1 lacks : Bool) where
  pub line_taken : (event : LineEvent) → IsLineEvent event → NextInto left0 left old new keep into0 into1 lacks1 event → PutsNext keep into1 (10 ∷ []) into lacks1 lacks → lacks ≡ false
      → TakesLine {E = E} left0 left old new keep into0 into (Ok Line)
  line_taken Line is n newline there =
      let all = puts_more keep into0 n.next.piece into1 (10 ∷ []) into lacks1 lacks n.puts newline in
      record { event = Line; next = n.next; answer = refl; whole = λ _. all.whole there; count = all.count; few = all.few; front = all.front }
  line_taken Long is n newline there =
      let all = puts_more keep into0 n.next.piece into1 (10 ∷ []) into lacks1 lacks n.puts newline in
      record { event = Long; next = n.next; answer = refl; whole = λ _. all.whole there; count = all.count; few = all.few; front = all.front }
  line_taken End is n newline there = absurd is
  line_taken Failed is n newline there = absurd is
  line_taken Over is n newline there = absurd is

  pub line_refused : (event : LineEvent) (error : E) → IsLineEvent event → NextInto left0 left old new keep into0 into1 lacks1 event → PutsNext keep into1 (10 ∷ []) into lacks1 lacks
      → TakesLine {E = E} left0 left old new keep into0 into (Err error)
  line_refused Line error is n newline =
      let all = puts_more keep into0 n.next.piece into1 (10 ∷ []) into lacks1 lacks n.puts newline in
      record { event = Line; next = n.next; answer = tt; whole = λ same. cc; count = all.count; few = all.few; front = all.front }
  line_refused Long error is n newline =
      let all = puts_more keep into0 n.next.piece into1 (10 ∷ []) into lacks1 lacks n.puts newline in
      record { event = Long; next = n.next; answer = tt; whole = λ same. cc; count = all.count; few = all.few; front = all.front }
  line_refused End error is n newline = absurd is
  line_refused Failed error is n newline = absurd is
  line_refused Over error is n newline = absurd is

pub none_taken : {E : Type 0} (left0 left : Option (List ℕ)) (old new : LinesView) (keep : ℕ) (into0 into : List ℕ) (lacks : Bool) (event : LineEvent) → (IsLineEvent event → ⊥)
    → NextInto left0 left old new keep into0 into lacks event → TakesLine {E = E} left0 left old new keep into0 into (Ok event)
none_taken left0 left old new keep into0 into lacks Line none n = absurd (none tt)
none_taken left0 left old new keep into0 into lacks Long none n = absurd (none tt)
none_taken left0 left old new keep into0 into lacks End none n = record { event = End; next = n.next; answer = refl; whole = λ same. cc; count = n.puts.count; few = n.puts.few; front = n.puts.front }
none_taken left0 left old new keep into0 into lacks Failed none n = record { event = Failed; next = n.next; answer = refl; whole = λ same. cc; count = n.puts.count; few = n.puts.few; front = n.puts.front }
none_taken left0 left old new keep into0 into lacks Over none n = record { event = Over; next = n.next; answer = refl; whole = λ same. cc; count = n.puts.count; few = n.puts.few; front = n.puts.front }
