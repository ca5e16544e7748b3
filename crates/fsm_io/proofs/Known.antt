-- Small laws on known bytes that grow or are consumed, and on what is written through an outbox.
use Rattle.std.proofs.Common.{ℕ, List, [], ◌++◌, Option, None, Some, Result, Ok, refl, sym, ap, ◌∙◌, append_assoc, append-nil}
use Rattle.std.specs.Io.KnownBytes.{Appends, Consumes, Keeps}
use Rattle.fsm_io.specs.Sinks.{Written, Gathers}

pub appends_none : (known : Option (List ℕ)) → Appends known known []
appends_none None = tt
appends_none (Some xs) = sym (append-nil xs)

pub appends_kept : (a b : Option (List ℕ)) → Keeps a b → Appends a b []
appends_kept None b kept = tt
appends_kept (Some xs) None kept = absurd kept
appends_kept (Some xs) (Some ys) kept = kept ∙ sym (append-nil xs)

pub appends_more : (a b c : Option (List ℕ)) (first second : List ℕ) → Appends a b first → Appends b c second → Appends a c (first ++ second)
appends_more None b c first second p q = tt
appends_more (Some xs) None c first second p q = absurd p
appends_more (Some xs) (Some ys) None first second p q = absurd q
appends_more (Some xs) (Some ys) (Some zs) first second p q = q ∙ ap (λ (l : List ℕ). l ++ second) p ∙ append_assoc xs first second

pub consumes_none : (known : Option (List ℕ)) → Consumes known known []
consumes_none None = tt
consumes_none (Some xs) = refl

pub consumes_kept : (a b : Option (List ℕ)) → Keeps a b → Consumes a b []
consumes_kept None b kept = tt
consumes_kept (Some xs) None kept = absurd kept
consumes_kept (Some xs) (Some ys) kept = sym kept

pub consumes_more : (a b c : Option (List ℕ)) (first second : List ℕ) → Consumes a b first → Consumes b c second → Consumes a c (first ++ second)
consumes_more None b c first second p q = tt
consumes_more (Some xs) None c first second p q = absurd p
consumes_more (Some xs) (Some ys) None first second p q = absurd q
consumes_more (Some xs) (Some ys) (Some zs) first second p q = p ∙ ap (λ (l : List ℕ). first ++ l) q ∙ sym (append_assoc first second zs)

-- ---- what is written through an outbox: all that was put, but for what is gathered

pub written_start : (known : Option (List ℕ)) (bytes : List ℕ) → Written known known bytes bytes
written_start known bytes = record { front = []; whole = refl; appended = appends_none known }

-- bytes were put, or with none the outbox was flushed
pub written_put : {T E : Type 0} (old mid new : Option (List ℕ)) (all gathered bytes after : List ℕ) (value : T)
    → Written old mid all gathered → Gathers {T = T} {E = E} mid new gathered bytes after (Ok value) → Written old new (all ++ bytes) after
written_put old mid new all gathered bytes after value before put =
    let whole = append_assoc before.front gathered bytes ∙ ap (λ (l : List ℕ). before.front ++ l) (put.whole ∙ ap (λ (l : List ℕ). put.front ++ l) (sym put.kept)) ∙ sym (append_assoc before.front put.front after) in
    record {
      front = before.front ++ put.front;
      whole = ap (λ (l : List ℕ). l ++ bytes) before.whole ∙ whole;
      appended = appends_more old mid new before.front put.front before.appended put.appended;
    }

-- a put failed: a front of all bytes was written
pub written_failed : {T E : Type 0} (old mid new : Option (List ℕ)) (all gathered bytes after : List ℕ) (result : Result T E)
    → Written old mid all gathered → (put : Gathers {T = T} {E = E} mid new gathered bytes after result) → Written old new (all ++ bytes) put.rest
written_failed old mid new all gathered bytes after result before put =
    let whole = append_assoc before.front gathered bytes ∙ ap (λ (l : List ℕ). before.front ++ l) put.whole ∙ sym (append_assoc before.front put.front put.rest) in
    record {
      front = before.front ++ put.front;
      whole = ap (λ (l : List ℕ). l ++ bytes) before.whole ∙ whole;
      appended = appends_more old mid new before.front put.front before.appended put.appended;
    }
