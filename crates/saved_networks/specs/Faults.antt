-- The first fault of a file that is to be an AT&T text: that there is none, that it is too long, that its bytes are no text, or the first
-- fault of the text's lines, in this order.
use Rattle.std.specs.Prelude.{◌≡◌, ⊤, ℕ, nat_lt, List, length, Option, Some, None, Result, Ok, Err, if◌then◌else◌}
use Rattle.std.specs.Option.{option_map}
use Rattle.fsm_base.specs.Normal.{source_text}
use Rattle.fsm_base.specs.declared.normalize.TextError.{TextError}
use Rattle.fsm_base.specs.declared.normalize.TextError.TheVariants as texts
use Rattle.att_text.specs.Faults.{fault_of}
use Rattle.saved_networks.specs.declared.faults.SavedWhy.{SavedWhy}
use Rattle.saved_networks.specs.declared.faults.SavedWhy.TheVariants.{NoFile, LimitFile, NotUtf8, Control, Line}
use Rattle.saved_networks.specs.declared.faults.SavedError.{SavedError}
use Rattle.saved_networks.specs.declared.faults.SavedError.TheVariants.{Refused, Memory}

-- the most bytes of a file
abbrev pub most_bytes : ℕ
most_bytes = 67108864

-- the first fault of a text: of a line of it, counted from 1
abbrev pub text_fault : List ℕ → Option (ℕ × SavedWhy)
text_fault text = option_map (λ fault. (fault.0, Line fault.1)) (fault_of text)

-- that there is no text, or else its first fault. Want of memory is no fault
abbrev pub source_fault : Result (List ℕ) TextError → Option (ℕ × SavedWhy)
source_fault (Ok text) = text_fault text
source_fault (Err (texts.NotUtf8 line)) = Some (line, NotUtf8)
source_fault (Err (texts.Control line)) = Some (line, Control)
source_fault (Err (texts.Memory refused)) = None

-- the first fault of a file by its bytes, if it is there: its line, or 0 for the file as a whole, and the reason
abbrev pub file_fault : Option (List ℕ) → Option (ℕ × SavedWhy)
file_fault None = Some (0, NoFile)
file_fault (Some bytes) = if nat_lt most_bytes (length bytes) then Some (0, LimitFile) else source_fault (source_text bytes)

-- the error is the first fault. Want of memory says nothing of it
abbrev pub IsWhyRefused : Option (ℕ × SavedWhy) → SavedError → Type 0
IsWhyRefused fault (Refused line why) = fault ≡ Some (line, why)
IsWhyRefused fault (Memory refused) = ⊤
