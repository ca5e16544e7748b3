-- What a caller gets of a reply: its bytes, where the buffer has the room, and their count in any case.
use Rattle.std.specs.Prelude.{◌≡◌, ◌≤◌, ◌<◌, ◌⊎◌, ◌++◌, ◌+◌, nat_eq, ℕ, Bool, List, count_by, drop, length}
use Rattle.fsm_io.specs.Gather.{IsNewline}
use Rattle.fsm_io.specs.Lines.{IsWithinLine}
use Rattle.morph_c.specs.Statuses.{no_room, ok, status_of}
use Rattle.morph_c.specs.declared.told.MorphReply.{MorphReply}
use Rattle.morph_c.specs.declared.trouble.Trouble.{Trouble}
use Rattle.morph_c.specs.declared.trouble.Trouble.TheVariants.{Memory, State, NotUtf8, Long, Newline, Refused, NoSymbol}

abbrev pub is_newline : ℕ → Bool
is_newline byte = nat_eq byte 10

-- where the second line of bytes begins: behind their first newline, or at their end, where there is none
abbrev pub IsSecondLine : List ℕ → ℕ → Type 0
IsSecondLine bytes at = ((newline : ℕ) × IsNewline bytes newline × (at ≡ newline + 1)) ⊎ (IsWithinLine bytes × (at ≡ length bytes))

-- how many bytes there are, where the second line begins, and how many lines end from there on
pub record IsReply (bytes : List ℕ) (reply : MorphReply) : Type 0 where
  pub len : reply.len ≡ length bytes
  pub at : IsSecondLine bytes reply.at
  pub count : reply.count ≡ count_by is_newline (drop reply.at bytes)
  pub place : reply.place ≡ 0

-- the bytes stand in the front of the buffer, whose rest is as it was; or the buffer is shorter, and as it was
abbrev pub IsTold : List ℕ → List ℕ → List ℕ → ℕ → Type 0
IsTold bytes before after status =
    ((status ≡ ok) × (length bytes ≤ length before) × (after ≡ bytes ++ drop (length bytes) before)) ⊎ ((status ≡ no_room) × (length before < length bytes) × (after ≡ before))

abbrev pub place_of : Trouble → ℕ
place_of (NoSymbol at) = at
place_of Memory = 0
place_of State = 0
place_of NotUtf8 = 0
place_of Long = 0
place_of Newline = 0
place_of Refused = 0

-- what is told of no reply: the character at which no symbol begins, and else nothing
abbrev pub no_reply : Trouble → MorphReply
no_reply why = record { len = 0; at = 0; count = 0; place = place_of why }

-- A caller is told bytes of which P holds; or a trouble of which W holds, with the buffer as it was
pub data Tells (P : List ℕ → Type 0) (W : Trouble → Type 0) (before after : List ℕ) (reply : MorphReply) (status : ℕ) : Type 0 where
  told : (bytes : List ℕ) → P bytes → IsTold bytes before after status → IsReply bytes reply → Tells P W before after reply status
  trouble : (why : Trouble) → W why → status ≡ status_of why → reply ≡ no_reply why → after ≡ before → Tells P W before after reply status
