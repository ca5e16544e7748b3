-- An edit with too long a content is refused alike, whatever stands behind its first bytes, so a change of edits as they are kept has the replies of the change.
use Rattle.std.proofs.Common.{◌≡◌, ℕ, ◌+◌, ◌-◌, ◌<◌, ◌≤◌, ◌==◌, Bool, true, false, cond, List, [], ◌∷◌, ◌++◌, length, take, drop, map, Option, None, Some, Result, Ok, Err, ◌⊎◌, inl, inr, refl, sym, ap, subst, ◌∙◌, arith, length-append, length-take}
use Rattle.std.specs.List.{flat_map}
use Rattle.std.proofs.lemmas.Bool.{cases_lt}
use Rattle.std.proofs.lemmas.List.{length-map, map-append, take_all}
use Rattle.std.proofs.lemmas.List.Concat.{flat_map-append}
use Rattle.regex_ast.specs.declared.fault.Fault.{Fault}
use Rattle.project_manifest.specs.Manifests.{lines_from, lines_of}
use Rattle.project_manifest.specs.Rows.{First}
use Rattle.project_sources.specs.Edits.{Apply, Changes, Edit, EditFault, EditRow, Holding, IsPossible, IsRefused, Version, absent, after, bad_splice, drops, too_many, too_large, edit_rows, held_in, put, splice, spliced}
use Rattle.project_sources.specs.Faults.{Row}
use Rattle.project_sources.specs.Limits.{most_bytes}
use Rattle.project_sources.specs.Sources.{Readers}
use Rattle.editor_meaning.specs.Batches.{Batch, lost, no_batch, open_with, spoilt}
use Rattle.editor_meaning.specs.Editing.{Holds, RepliesToAbandon, RepliesToBegin, RepliesToChange, RepliesToCommit, RepliesToEdit, accepted, fits, full, no_memory, overfull, refused, unkept}
use Rattle.editor_session.specs.Keeping.{kept_batch, kept_of, most_kept}

abbrev IsLong : List ℕ → Type 0
IsLong bytes = most_bytes < length bytes

-- ---- lines are no shorter than the bytes whose lines they are

abbrev written : List (List ℕ) → List ℕ
written lines = flat_map (λ line. line ++ 10 ∷ []) lines

one_line : (line : List ℕ) (lines : List (List ℕ)) → length (written (line ∷ lines)) ≡ length line + 1 + length (written lines)
one_line line lines = omega (arith, length-append (line ++ 10 ∷ []) (written lines), length-append line (10 ∷ []))

no_shorter : (line bytes : List ℕ) → length line + length bytes ≤ length (written (lines_from line bytes))
no_shorter [] [] = omega arith
no_shorter (b ∷ line) [] = omega (arith, one_line (b ∷ line) [])
no_shorter line (b ∷ bytes) = at (b == 10) (no_shorter [] bytes) (no_shorter (line ++ b ∷ []) bytes) where
  at : (newline : Bool) → length {A = ℕ} [] + length bytes ≤ length (written (lines_from [] bytes)) → length (line ++ b ∷ []) + length bytes ≤ length (written (lines_from (line ++ b ∷ []) bytes))
      → length line + length (b ∷ bytes) ≤ length (written (cond newline (line ∷ lines_from [] bytes) (lines_from (line ++ b ∷ []) bytes)))
  at true first next = omega (arith, one_line line (lines_from [] bytes), first)
  at false first next = omega (arith, length-append line (b ∷ []), next)

three : (a b c : List (List ℕ)) → length (written b) ≤ length (written (a ++ b ++ c))
three a b c =
    let outer = ap length (flat_map-append (λ (line : List ℕ). line ++ 10 ∷ []) (a ++ b) c) in
    let inner = ap length (flat_map-append (λ (line : List ℕ). line ++ 10 ∷ []) a b) in
    omega (arith, outer, inner, length-append (written (a ++ b)) (written c), length-append (written a) (written b))

long_splice : (from count : ℕ) (bytes content : List ℕ) → IsLong bytes → IsLong (spliced from count bytes content)
long_splice from count bytes content long =
    omega (arith, no_shorter [] bytes, three (take (from - 1) (lines_of content)) (lines_of bytes) (drop (from - 1 + count) (lines_of content)))

-- ---- rows of faults

first_same : {A F : Type 0} (P Q : A → F → Type 0) → ((x : A) (f : F) → P x f → Q x f) → ((x : A) (f : F) → Q x f → P x f) → (xs : List A) (f : F) → First P xs f → First Q xs f
first_same P Q to from [] f h = absurd h
first_same P Q to from (x ∷ xs) f (inl h) = inl (to x f h)
first_same {A} {F} P Q to from (x ∷ xs) f (inr h) = inr ((λ (other : F) q. h.0 other (from x other q)), first_same P Q to from xs f h.1)

-- where the last row has a fault, one is the first
last_row : {F : Type 0} (P : EditRow → F → Type 0) (f : F) → P too_large f → ((found : F) → First P edit_rows found → ⊥) → ⊥
last_row {F} P f large none = none f (inr (no_absent, inr (no_bad, inr (no_many, inl large)))) where
  no_absent : (other : F) → P absent other → ⊥
  no_absent other h = none other (inl h)

  no_bad : (other : F) → P bad_splice other → ⊥
  no_bad other h = none other (inr (no_absent, inl h))

  no_many : (other : F) → P too_many other → ⊥
  no_many other h = none other (inr (no_absent, inr (no_bad, inl h)))

module _ (held : Holding) (file : List ℕ) where
  put_row : (a b : List ℕ) → IsLong b → (row : EditRow) (found : Fault) → EditFault held (put file a) row found → EditFault held (put file b) row found
  put_row a b long absent found h = absurd h
  put_row a b long bad_splice found h = absurd h
  put_row a b long too_many found h = h
  put_row a b long too_large found h = (long, h.1)

  module _ (from count : ℕ) where
    splice_row : (a b : List ℕ) → IsLong b → (row : EditRow) (found : Fault) → EditFault held (splice file from count a) row found → EditFault held (splice file from count b) row found
    splice_row a b long absent found h = h
    splice_row a b long bad_splice found h = h
    splice_row a b long too_many found h = absurd h
    splice_row a b long too_large found h = ((h.0.0, h.0.1, long_splice from count b h.0.0 long), h.1)

-- two edits that are refused alike, of which neither is possible
record AreAlike (held : Holding) (a b : Edit) : Type 0 where
  refused_too : (found : Fault) → IsRefused held a found → IsRefused held b found
  impossible : IsPossible held a → ⊥

puts_alike : (held : Holding) (file a b : List ℕ) → IsLong a → IsLong b → AreAlike held (put file a) (put file b)
puts_alike held file a b long long2 = record {
  refused_too = λ found. first_same (EditFault held (put file a)) (EditFault held (put file b)) (put_row held file a b long2) (put_row held file b a long) edit_rows found;
  impossible = λ none. last_row (EditFault held (put file a)) _ (long, refl) none;
}

splices_alike : (held : Holding) (file : List ℕ) (from count : ℕ) (a b : List ℕ) → IsLong a → IsLong b → AreAlike held (splice file from count a) (splice file from count b)
splices_alike held file from count a b long long2 = record {
  refused_too = λ found. first_same (EditFault held (splice file from count a)) (EditFault held (splice file from count b)) (splice_row held file from count a b long2) (splice_row held file from count b a long) edit_rows found;
  impossible = λ none. at none (held file) refl;
} where
  at : IsPossible held (splice file from count a) → (content : Option (List ℕ)) → held file ≡ content → ⊥
  at none None is = none _ (inl (is, refl))
  at none (Some content) is = last_row (EditFault held (splice file from count a)) _ ((content, is, long_splice from count a content long), refl) none

-- ---- edits as they are kept

kept_beyond : most_bytes < most_kept
unfolding most_kept
kept_beyond = omega arith

cut_long : (bytes : List ℕ) → most_kept < length bytes → IsLong (take most_kept bytes)
cut_long bytes long = omega (arith, length-take most_kept bytes, kept_beyond)

whole_long : (bytes : List ℕ) → most_kept < length bytes → IsLong bytes
whole_long bytes long = omega (arith, long, kept_beyond)

-- the edit is kept whole, or is refused alike
kept_alike : (edit : Edit) → (kept_of edit ≡ edit) ⊎ ((held : Holding) → AreAlike held (kept_of edit) edit)
kept_alike (put file bytes) = elim (cases_lt most_kept (length bytes)) [
  | inl long ↦ inr (λ held. puts_alike held file (take most_kept bytes) bytes (cut_long bytes long) (whole_long bytes long))
  | inr few ↦ inl (ap (put file) (take_all most_kept bytes few))
]
kept_alike (splice file from count bytes) = elim (cases_lt most_kept (length bytes)) [
  | inl long ↦ inr (λ held. splices_alike held file from count (take most_kept bytes) bytes (cut_long bytes long) (whole_long bytes long))
  | inr few ↦ inl (ap (splice file from count) (take_all most_kept bytes few))
]
kept_alike (drops file) = inl refl

kept_apply : (change : List Edit) (held : Holding) (out : Result Holding Fault) → Apply (map kept_of change) held out → Apply change held out
kept_apply [] held out h = h
kept_apply (edit ∷ change) held out h = by (kept_alike edit) out (kept_apply change (after (kept_of edit) held) out) h where
  by : (kept_of edit ≡ edit) ⊎ ((held : Holding) → AreAlike held (kept_of edit) edit) → (out : Result Holding Fault)
      → (Apply (map kept_of change) (after (kept_of edit) held) out → Apply change (after (kept_of edit) held) out) → Apply (kept_of edit ∷ map kept_of change) held out → Apply (edit ∷ change) held out
  by (inl same) (Ok new) later h = subst (λ (e : Edit). Apply (e ∷ change) held (Ok new)) same (h.0, later h.1)
  by (inl same) (Err found) later (inl first) = subst (λ (e : Edit). Apply (e ∷ change) held (Err found)) same (inl first)
  by (inl same) (Err found) later (inr h) = subst (λ (e : Edit). Apply (e ∷ change) held (Err found)) same (inr (h.0, later h.1))
  by (inr alike) (Ok new) later h = absurd ((alike held).impossible h.0)
  by (inr alike) (Err found) later (inl first) = inl ((alike held).refused_too found first)
  by (inr alike) (Err found) later (inr h) = absurd ((alike held).impossible h.0)

-- ---- replies

module _ (readers : Readers) (told : List Row) (present : Version) where
  kept_changes : (change : List Edit) (out : Result Version Fault) → Changes readers told present (map kept_of change) out → Changes readers told present change out
  kept_changes change (Ok new) h = (kept_apply change (held_in present.files) (Ok (held_in new.files)) h.0, h.1, h.2)
  kept_changes change (Err found) (inl applied) = inl (kept_apply change (held_in present.files) (Err found) applied)
  kept_changes change (Err found) (inr (files, applied, says)) = inr (files, kept_apply change (held_in present.files) (Ok (held_in files)) applied, says)

  pub kept_change : (change : List Edit) (reply : List ℕ) (new : Option Version) → RepliesToChange readers told present (map kept_of change) reply new → RepliesToChange readers told present change reply new
  kept_change change reply new (full many is made) = full many is made
  kept_change change reply new (accepted next names few changes are is made) = accepted next names few (kept_changes change (Ok next) changes) are is made
  kept_change change reply new (refused found few changes is made) = refused found few (kept_changes change (Err found) changes) is made
  kept_change change reply new (no_memory is made) = no_memory is made

  -- the batch that is kept then is that of a batch
  abbrev pub AsKept : (Batch → Type 0) → Batch → Type 0
  AsKept P kept = (next : Batch) × (kept ≡ kept_batch next) × P next

  kept_hold : (held : List Edit) (edit : Edit) (reply : List ℕ) (kept : Batch) → Holds (map kept_of held) (kept_of edit) reply kept → AsKept (λ next. Holds held edit reply next) kept
  kept_hold held edit reply kept (fits few is then) =
      (open_with (held ++ edit ∷ []), then ∙ ap open_with (sym (map-append kept_of held (edit ∷ []))), fits (omega (arith, few, length-map held kept_of)) is refl)
  kept_hold held edit reply kept (overfull many is then) = (lost, then, overfull (omega (arith, many, length-map held kept_of)) is refl)
  kept_hold held edit reply kept (unkept few is then) = (lost, then, unkept (omega (arith, few, length-map held kept_of)) is refl)

  pub kept_edit : (batch : Batch) (edit : Edit) (reply : List ℕ) (new : Option Version) (kept : Batch) → RepliesToEdit readers told present (kept_batch batch) (kept_of edit) reply new kept
      → AsKept (λ next. RepliesToEdit readers told present batch edit reply new next) kept
  kept_edit no_batch edit reply new kept h = (no_batch, h.1, (kept_change (edit ∷ []) reply new h.0, refl))
  kept_edit (open_with held) edit reply new kept h = let (next, is, holds) = kept_hold held edit reply kept h.0 in (next, is, (holds, h.1))
  kept_edit lost edit reply new kept h = (lost, h.2, (h.0, h.1, refl))

  pub kept_commit : (batch : Batch) (reply : List ℕ) (new : Option Version) (kept : Batch) → RepliesToCommit readers told present (kept_batch batch) reply new kept → AsKept (λ next. RepliesToCommit readers told present batch reply new next) kept
  kept_commit no_batch reply new kept h = (no_batch, h.2, (h.0, h.1, refl))
  kept_commit (open_with held) reply new kept h = (no_batch, h.1, (kept_change held reply new h.0, refl))
  kept_commit lost reply new kept h = (no_batch, h.2, (h.0, h.1, refl))

  pub kept_begin : (batch : Batch) (reply : List ℕ) (kept : Batch) → RepliesToBegin (kept_batch batch) reply kept → AsKept (λ next. RepliesToBegin batch reply next) kept
  kept_begin no_batch reply kept h = (open_with [], h.1, (h.0, refl))
  kept_begin (open_with held) reply kept h = (open_with held, h.1, (h.0, refl))
  kept_begin lost reply kept h = (lost, h.1, (h.0, refl))

  pub kept_abandon : (batch : Batch) (reply : List ℕ) (kept : Batch) → RepliesToAbandon (kept_batch batch) reply kept → AsKept (λ next. RepliesToAbandon batch reply next) kept
  kept_abandon no_batch reply kept h = (no_batch, h.1, (h.0, refl))
  kept_abandon (open_with held) reply kept h = (no_batch, h.1, (h.0, refl))
  kept_abandon lost reply kept h = (no_batch, h.1, (h.0, refl))

pub kept_spoilt : (batch : Batch) → spoilt (kept_batch batch) ≡ kept_batch (spoilt batch)
kept_spoilt no_batch = refl
kept_spoilt (open_with held) = refl
kept_spoilt lost = refl
