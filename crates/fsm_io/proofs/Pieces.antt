-- What a write of all bytes keeps from piece to piece, what the objects in memory give, and laws on
-- fronts of lists.
use Rattle.std.proofs.Common.{◌≡◌, ℕ, zero, suc, ◌+◌, ◌-◌, ◌<◌, ◌≤◌, min, List, [], ◌∷◌, ◌++◌, length, take, drop, Option, Some, Result, Ok, Err, Bool, true, cond, get_or, subst, refl, sym, ap, ◌∙◌, append_assoc, append-nil, arith, take-append-drop, drop-drop}
use Rattle.std.proofs.lemmas.List.{drop-take, take_rest, drop_all, at_drop_more}
use Rattle.std.specs.Str.{bytes_eq}
use Rattle.std.specs.Global.{Vec}
use Rattle.std.specs.Io.KnownBytes.{Appends, Keeps}
use Rattle.fsm_io.specs.Folders.{file_of}
use Rattle.fsm_io.specs.Objects.{contents}
use Rattle.fsm_io.specs.Sinks.{Written, WritesAll, Gathers}
use Rattle.fsm_io.proofs.Known.{appends_kept, appends_more}

pub written_more : (old mid new : Option (List ℕ)) (bytes rest : List ℕ) (n : ℕ) → Written old mid bytes rest → Appends mid new (take n rest) → Written old new bytes (drop n rest)
written_more old mid new bytes rest n before now = record {
  front = before.front ++ take n rest;
  whole = before.whole ∙ ap (λ (l : List ℕ). before.front ++ l) (sym (take-append-drop n rest)) ∙ sym (append_assoc before.front (take n rest) (drop n rest));
  appended = appends_more old mid new before.front (take n rest) before.appended now;
}

pub written_all : {T E : Type 0} (old new : Option (List ℕ)) (bytes rest : List ℕ) (value : T) → Written old new bytes rest → rest ≡ [] → WritesAll {T = T} {E = E} old new bytes (Ok value)
written_all old new bytes rest value before none = record {
  front = before.front;
  rest = rest;
  whole = before.whole;
  appended = before.appended;
  all = none;
}

pub written_stopped : {T E : Type 0} (old mid new : Option (List ℕ)) (bytes rest : List ℕ) (error : E) → Written old mid bytes rest → Keeps mid new → WritesAll {T = T} {E = E} old new bytes (Err error)
written_stopped old mid new bytes rest error before kept = record {
  front = before.front ++ [];
  rest = rest;
  whole = before.whole ∙ ap (λ (l : List ℕ). l ++ rest) (sym (append-nil before.front));
  appended = appends_more old mid new before.front [] before.appended (appends_kept mid new kept);
  all = tt;
}

-- the rest of a slice
pub written_next : (old mid new : Option (List ℕ)) (bytes rest : List ℕ) (n : ℕ) → Written old mid bytes rest → Appends mid new (take n rest) → Written old new bytes (take (length rest - n) (drop n rest))
written_next old mid new bytes rest n before now =
    subst (λ (l : List ℕ). Written old new bytes l) (sym (take_rest rest n)) (written_more old mid new bytes rest n before now)

-- ---- what an outbox gathers

-- all was written that was gathered, and then others were put
pub gathers_next : {E : Type 0} (old mid new : Option (List ℕ)) (gathered bytes empty after : List ℕ) (value : Unit {0}) (result : Result (Unit {0}) E)
    → Gathers {T = Unit {0}} {E = E} old mid gathered [] empty (Ok value) → empty ≡ [] → Gathers {T = Unit {0}} {E = E} mid new [] bytes after result → Gathers {T = Unit {0}} {E = E} old new gathered bytes after result
gathers_next old mid new gathered bytes empty after value result flushed none put =
    let all : gathered ≡ flushed.front = sym (append-nil gathered) ∙ flushed.whole ∙ ap (λ (l : List ℕ). flushed.front ++ l) (sym flushed.kept ∙ none) ∙ append-nil flushed.front in
    record {
      front = flushed.front ++ put.front;
      rest = put.rest;
      whole = ap (λ (l : List ℕ). l ++ bytes) all ∙ ap (λ (l : List ℕ). flushed.front ++ l) put.whole ∙ sym (append_assoc flushed.front put.front put.rest);
      appended = appends_more old mid new flushed.front put.front flushed.appended put.appended;
      kept = put.kept;
      lost = put.lost;
    }

-- what was gathered could not be written, and the others weren't begun
pub gathers_failed : {E : Type 0} (old new : Option (List ℕ)) (gathered bytes after : List ℕ) (error : E)
    → Gathers {T = Unit {0}} {E = E} old new gathered [] after (Err error) → Gathers {T = Unit {0}} {E = E} old new gathered bytes after (Err error)
gathers_failed old new gathered bytes after error flushed = record {
  front = flushed.front;
  rest = flushed.rest ++ bytes;
  whole = ap (λ (l : List ℕ). l ++ bytes) (sym (append-nil gathered) ∙ flushed.whole) ∙ append_assoc flushed.front flushed.rest bytes;
  appended = flushed.appended;
  kept = tt;
  lost = flushed.lost;
}

-- ---- what a source in memory gives

pub source_gives : (left bytes seen buf : List ℕ) (given count : ℕ) → drop given bytes ≡ left → seen ≡ bytes → take count buf ≡ take count (take (length seen - given) (drop given seen)) → left ≡ take count buf ++ drop (given + count) bytes
source_gives left bytes seen buf given count view same copied =
    let rest : take (length seen - given) (drop given seen) ≡ left = take_rest seen given ∙ ap (drop given) same ∙ view in
    sym (take-append-drop count left) ∙ ap (λ (l : List ℕ). l ++ drop count left) (sym (copied ∙ ap (take count) rest))
    ∙ ap (λ (l : List ℕ). take count buf ++ l) (ap (drop count) (sym view) ∙ drop-drop count given bytes)

pub nothing_left : (bytes : List ℕ) (at : ℕ) → length bytes ≤ at → drop at bytes ≡ []
nothing_left bytes at past = drop_all at bytes past

-- ---- the file of a name

file_at : (files : List (List ℕ × Vec ℕ)) (name : List ℕ) (i : ℕ) (item : List ℕ × Vec ℕ) → i < length files → item ≡ get_or files i item
    → file_of name (contents (drop i files)) ≡ cond (bytes_eq item.0 name) (Some item.1.items) (file_of name (contents (drop (i + 1) files)))
file_at files name i item inside is =
    at_drop_more (λ (l : List (List ℕ × Vec ℕ)). file_of name (contents l)) files i item inside
    ∙ ap (λ (f : List ℕ × Vec ℕ). cond (bytes_eq f.0 name) (Some f.1.items) (file_of name (contents (drop (i + 1) files)))) (sym is)

-- this file is the first of the name
pub file_found : (files : List (List ℕ × Vec ℕ)) (name : List ℕ) (i : ℕ) (item : List ℕ × Vec ℕ) → i < length files → item ≡ get_or files i item → bytes_eq item.0 name ≡ true
    → file_of name (contents (drop i files)) ≡ file_of name (contents files) → file_of name (contents files) ≡ Some item.1.items
file_found files name i item inside is named before =
    let rest = file_of name (contents (drop (i + 1) files)) in
    sym before ∙ file_at files name i item inside is ∙ ap (λ (b : Bool). cond b (Some item.1.items) rest) named

-- ---- fronts

-- the bytes of a range, without the first
pub drop-range : (start end count : ℕ) (xs : List ℕ) → start + count ≤ end → take (end - (start + count)) (drop (start + count) xs) ≡ drop count (take (end - start) (drop start xs))
drop-range start end count xs inside =
    let m = end - (start + count) in
    ap (take m) (sym (drop-drop count start xs)) ∙ sym (drop-take count m (drop start xs)) ∙ ap (λ (n : ℕ). drop count (take n (drop start xs))) {x = count + m} {y = end - start} (omega arith)

pub take-take-append : (n : ℕ) (p q : List ℕ) → take n (take n p ++ q) ≡ take n (p ++ q)
take-take-append zero p q = refl
take-take-append (suc n) [] q = refl
take-take-append (suc n) (x ∷ p) q = ap (λ (l : List ℕ). x ∷ l) (take-take-append n p q)

-- a front as long as there are elements
pub take-fit : (n m : ℕ) (xs : List ℕ) → m ≡ min n (length xs) → take m xs ≡ take n xs
take-fit zero m xs e = ap (λ (i : ℕ). take i xs) {x = m} {y = zero} (omega (arith, e))
take-fit (suc n) zero [] e = refl
take-fit (suc n) (suc m) [] e = refl
take-fit (suc n) zero (x ∷ xs) e = absurd (omega (arith, e))
take-fit (suc n) (suc m) (x ∷ xs) e = ap (λ (l : List ℕ). x ∷ l) (take-fit n m xs (omega (arith, e)))

-- what fits behind the bytes that are there, is a front of all of them
pub append-take : (room count : ℕ) (p q : List ℕ) → length p ≤ room → count ≡ min (room - length p) (length q) → p ++ take count q ≡ take room (p ++ q)
append-take room count [] q le e = take-fit room count q (omega (arith, e))
append-take zero count (x ∷ p) q le e = absurd (omega arith)
append-take (suc room) count (x ∷ p) q le e = ap (λ (l : List ℕ). x ∷ l) (append-take room count p q (omega arith) (omega (arith, e)))
