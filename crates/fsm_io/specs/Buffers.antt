-- Buffers of a fixed size.
use Rattle.std.specs.Prelude.{ℕ, List}

-- the most bytes that are taken from a source at once, and wait to be used
unfoldable pub most_ahead : ℕ
most_ahead = 65536

-- the most bytes that are gathered for a sink before they are written
unfoldable pub most_gathered : ℕ
most_gathered = 65536

-- the bytes that are held, and how many there may be
pub record BufferView : Type 0 where
  pub held : List ℕ
  pub room : ℕ
