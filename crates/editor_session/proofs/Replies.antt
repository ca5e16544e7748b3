-- Replies to requests.
use Rattle.std.proofs.Common.{◌≡◌, ℕ, List, [], ◌∷◌, Option, None, Result, Ok, Err, IfOk, Global, inl, inr, refl, sym, ap, subst, ◌∙◌}
use Rattle.std.specs.declared.vec.Vec.{Vec}
use Rattle.fsm_base.specs.Normal.{nfc_of}
use Rattle.project_edits.specs.Applied.{edit_of, edits_of}
use Rattle.project_edits.specs.declared.edit.Edit.{Edit as EditOf}
use Rattle.project_meaning.specs.Projects.{Defines}
use Rattle.project_sources.specs.Edits.{Version}
use Rattle.project_sources.specs.Faults.{rows}
use Rattle.project_sources.specs.Laws.{all_readers}
use Rattle.project_versions.specs.Errors.{IsWhyNotEdited}
use Rattle.project_versions.specs.declared.edit_error.EditError.{EditError}
use Rattle.project_versions.specs.declared.edit_error.EditError.TheVariants.{Full, Refused, Memory}
use Rattle.lookup_answers.specs.declared.direction.Direction.{Direction}
use Rattle.reply_meaning.specs.Replies.{RepliesToWord}
use Rattle.reply_text.specs.Projects.{accepted_line}
use Rattle.editor_meaning.specs.Batches.{Batch}
use Rattle.editor_meaning.specs.Editing.{AreNames, RepliesToChange, RepliesToCommit, RepliesToEdit, full, no_memory, refused}
use Rattle.editor_session.specs.Keeping.{batch_of}
use Rattle.editor_session.specs.declared.batches.Batch.{Batch as BatchOf}
use Rattle.editor_session.specs.declared.batches.Batch.TheVariants as batches
use Rattle.editor_session.specs.Replying.{RepliesToRequest, edit_reply}
use Rattle.editor_session.specs.declared.request.Request.{Request}
use Rattle.editor_session.specs.declared.request.Request.TheVariants.{Edit, LookUp}

-- a change that makes no version
pub error_reply : (present : Version) (change : List EditOf) (error : EditError) (reply : List ℕ) → IsWhyNotEdited present change error → edit_reply error reply → RepliesToChange all_readers rows present (edits_of change) reply None
error_reply present change Full reply why is = full why is refl
error_reply present change (Refused found) reply why (inl is) = refused found why.0 why.1 is refl
error_reply present change (Refused found) reply why (inr is) = no_memory is refl
error_reply present change (Memory error) reply why is = no_memory is refl

pub accepted_bytes : (bytes : List ℕ) (m n : ℕ) (names others : List (List ℕ)) → bytes ≡ accepted_line m names → m ≡ n → names ≡ others → bytes ≡ accepted_line n others
accepted_bytes bytes m n names others is number same = is ∙ ap (λ (k : ℕ). accepted_line k names) number ∙ ap (accepted_line n) same

-- the line of a loaded version
pub loaded_bytes : {E : Type 0} (r : Result (Vec ℕ Global) E) (loaded : Version) (number : ℕ) (names0 names : List (List ℕ)) → IfOk r (λ bytes. bytes.items ≡ accepted_line number names0) → number ≡ loaded.number → names0 ≡ names
    → AreNames (Defines loaded.project) names → IfOk r (λ bytes. (names : List (List ℕ)) × AreNames (Defines loaded.project) names × (bytes.items ≡ accepted_line loaded.number names))
loaded_bytes (Ok bytes) loaded number names0 names is same_number same are = (names, are, accepted_bytes bytes.items number loaded.number names0 names is same_number same)
loaded_bytes (Err e) loaded number names0 names is same_number same are = tt

-- an edit outside a batch
pub made_alone : (present : Version) (batch : BatchOf) (reply : List ℕ) (new : Option Version) → batch ≡ batches.NoBatch → (edit : EditOf) (change : List EditOf) → change ≡ edit ∷ [] → RepliesToChange all_readers rows present (edits_of change) reply new
    → RepliesToEdit all_readers rows present (batch_of batch) (edit_of edit) reply new (batch_of batch)
made_alone present batch reply new none edit change is h =
    subst (λ (b : BatchOf). RepliesToEdit all_readers rows present (batch_of b) (edit_of edit) reply new (batch_of b)) (sym none)
    (subst (λ (c : List EditOf). RepliesToChange all_readers rows present (edits_of c) reply new) is h, refl)

-- the edits of a batch
pub made_together : (present : Version) (batch leaves : BatchOf) (reply : List ℕ) (new : Option Version) (held : Vec EditOf Global) (change : List EditOf) → batch ≡ batches.Open held → leaves ≡ batches.NoBatch → change ≡ held.items
    → RepliesToChange all_readers rows present (edits_of change) reply new → RepliesToCommit all_readers rows present (batch_of batch) reply new (batch_of leaves)
made_together present batch leaves reply new held change opened none is h =
    subst (λ (b : BatchOf). RepliesToCommit all_readers rows present (batch_of b) reply new (batch_of leaves)) (sym opened)
    (subst (λ (c : List EditOf). RepliesToChange all_readers rows present (edits_of c) reply new) is h, ap batch_of none)

module _ (present : Version) (batch : Batch) (request : Request) (reply : List ℕ) (new : Option Version) (next : Batch) where
  pub request_edit : (change : EditOf) → request ≡ Edit change → RepliesToEdit all_readers rows present batch (edit_of change) reply new next → RepliesToRequest present batch request reply new next
  request_edit change is h = subst (λ (r : Request). RepliesToRequest present batch r reply new next) (sym is) h

  pub request_look_up : (direction : Direction) (net word : List ℕ) → request ≡ LookUp direction net word → RepliesToWord present.project direction present.number (nfc_of net) (nfc_of word) reply → new ≡ None → next ≡ batch
      → RepliesToRequest present batch request reply new next
  request_look_up direction net word is h none stays = subst (λ (r : Request). RepliesToRequest present batch r reply new next) (sym is) (h, none, stays)

  pub request_as : (other : Request) → request ≡ other → RepliesToRequest present batch other reply new next → RepliesToRequest present batch request reply new next
  request_as other is h = subst (λ (r : Request). RepliesToRequest present batch r reply new next) (sym is) h
