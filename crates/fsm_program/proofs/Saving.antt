-- What the first bytes of a saved file say, the whole file says: too many are seen by one more than it may have.
use Rattle.std.proofs.Common.{◌≡◌, ◌⊎◌, ◌<◌, ◌≤◌, ℕ, Bool, cond, List, [], ◌∷◌, length, take, Option, Some, None, Result, Ok, refl, sym, ap, subst, ◌∙◌, arith, inl, inr}
use Rattle.std.proofs.lemmas.Bool.{cases_lt, lt-ltb}
use Rattle.std.proofs.lemmas.List.{length-take, take_all}
use Rattle.fsm_base.specs.Normal.{source_text}
use Rattle.fsm_io.specs.Folders.{AsksFor, Asked, Files, Finds, HasAsked, file_of}
use Rattle.fsm_io.specs.declared.folder.Found.{Found}
use Rattle.fsm_io.specs.declared.folder.Found.TheVariants.{Bytes, Missing}
use Rattle.saved_networks.specs.Faults.{IsWhyRefused, file_fault, most_bytes, source_fault}
use Rattle.saved_networks.specs.declared.faults.SavedError.{SavedError}
use Rattle.saved_networks.specs.declared.faults.SavedError.TheVariants.{Refused}
use Rattle.saved_networks.specs.declared.faults.SavedWhy.{SavedWhy}
use Rattle.saved_networks.specs.declared.faults.SavedWhy.TheVariants.{LimitFile}
use Rattle.fsm_program.specs.Saved.{AskedForSaved, HasSavedText, IsSavedFault, content_of, most_saved}

pub most_saved_is : 67108865 ≡ most_saved
unfolding most_saved
most_saved_is = refl

-- a file with too many bytes has that fault, and another has that of its text
long_fault : (bytes : List ℕ) → most_bytes < length bytes → file_fault (Some bytes) ≡ Some (0, LimitFile)
long_fault bytes many = ap (λ (b : Bool). cond b (Some (0, LimitFile)) (source_fault (source_text bytes))) (lt-ltb most_bytes (length bytes) many)

no_none : {A P : Type 0} (a : A) → Some a ≡ None → P
no_none a e = cc

same_some : {A : Type 0} (a b : A) → Some a ≡ Some b → a ≡ b
same_some a b e = cc

module _ (content : List ℕ) where
  whole : length content ≤ most_bytes → take most_saved content ≡ content
  whole small = take_all most_saved content (omega (arith, small, most_saved_is))

  pub fault_as_read : file_fault (Some (take most_saved content)) ≡ file_fault (Some content)
  fault_as_read = elim (cases_lt most_bytes (length content)) as (λ _. file_fault (Some (take most_saved content)) ≡ file_fault (Some content)) [
    | inl many ↦ long_fault (take most_saved content) (omega (arith, length-take most_saved content, many, most_saved_is)) ∙ sym (long_fault content many)
    | inr small ↦ ap (λ (z : List ℕ). file_fault (Some z)) (whole small)
  ]

  -- without fault it was read whole
  pub whole_as_read : file_fault (Some content) ≡ None → take most_saved content ≡ content
  whole_as_read free = elim (cases_lt most_bytes (length content)) as (λ _. take most_saved content ≡ content) [
    | inl many ↦ no_none (0, LimitFile) (sym (long_fault content many) ∙ free)
    | inr small ↦ whole small
  ]

-- what was found of the file, `most` bytes at most, where that is one more than it may have
module _ (most : ℕ) (is_most : most ≡ most_saved) (file : List ℕ) (files : Files) where
  found_fault : (found : Found) → Finds file most found files → file_fault (content_of found) ≡ file_fault (file_of file files)
  found_fault (Bytes bytes) (content, held, is) =
      ap (λ (z : List ℕ). file_fault (Some z)) (is ∙ ap (λ (n : ℕ). take n content) is_most) ∙ fault_as_read content ∙ ap file_fault (sym held)
  found_fault Missing none = ap file_fault (sym none)

  pub fault_there : (found : Found) (line : ℕ) (why : SavedWhy) → file_fault (content_of found) ≡ Some (line, why) → Finds file most found files → IsSavedFault file line why files
  fault_there found line why faulty finds = sym (found_fault found finds) ∙ faulty

  pub text_there : (found : Found) (bytes text : List ℕ) → content_of found ≡ Some bytes → file_fault (content_of found) ≡ None → source_text bytes ≡ Ok text → Finds file most found files → HasSavedText file text files
  text_there (Bytes read) bytes text some free reads (content, held, is) =
      let same = same_some read.items bytes some in
      let cut : read.items ≡ take most_saved content = is ∙ ap (λ (n : ℕ). take n content) is_most in
      let none : file_fault (Some content) ≡ None = sym (fault_as_read content) ∙ ap (λ (z : List ℕ). file_fault (Some z)) (sym cut) ∙ free in
      record {
        bytes = content;
        held = held;
        faultless = none;
        is = ap source_text (sym (sym same ∙ cut ∙ whole_as_read content none)) ∙ reads;
      }
  text_there Missing bytes text some free reads finds = no_none bytes (sym some)

-- what the folder was asked for
pub asked_saved : {T E : Type 0} (file : List ℕ) (most : ℕ) (old new : Option (List Asked)) (r : Result T E) → most ≡ most_saved → HasAsked old new file most r → AskedForSaved file old new
asked_saved file most old new r is asks =
    subst (λ (n : ℕ). AsksFor old new (record { name = file; most = n } ∷ []) ⊎ (new ≡ old)) is (elim asks as (λ _. AsksFor old new (record { name = file; most = most } ∷ []) ⊎ (new ≡ old)) [ inl asked ↦ inl asked | inr held ↦ inr held.1 ])

-- the reason of an error is the first fault of what was found
pub why_there : (fault : Option (ℕ × SavedWhy)) (error : SavedError) (line : ℕ) (why : SavedWhy) → IsWhyRefused fault error → error ≡ Refused line why → fault ≡ Some (line, why)
why_there fault error line why reason is = subst (IsWhyRefused fault) is reason
