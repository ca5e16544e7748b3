-- A reply that is sent.
use Rattle.std.proofs.Common.{◌≡◌, ◌≤◌, ℕ, List, Option, Result, length, subst}
use Rattle.fsm_io.specs.Buffers.{most_gathered}
use Rattle.fsm_io.specs.Sinks.{Gathers}
use Rattle.fsm_program.specs.Sending.{Sends}

-- the bytes are those of the reply, which is lawful
pub sends_as : {T E : Type 0} {R : List ℕ → Type 0} {held0 held : Option (List ℕ)} {gathered after : List ℕ} {result : Result T E} (bytes reply : List ℕ) → R reply → bytes ≡ reply → Gathers held0 held gathered bytes after result → length after ≤ most_gathered → Sends R held0 held gathered after result
sends_as {T} {E} {R} {held0} {held} {gathered} {after} {result} bytes reply lawful is sent few = record {
  reply = reply;
  lawful = lawful;
  sent = subst (λ (z : List ℕ). Gathers held0 held gathered z after result) is sent;
  few = few;
}
