-- What contracts see of a part of a history: the values, and which board published them.
use Rattle.std.specs.Prelude.{List}
use Rattle.logbook.specs.Pages.{Book}

-- each board has one history, by which it is known
abbrev pub Board : Type 0
Board = Book

pub record Published (X : Type 0) : Type 0 where
  pub board : Board
  pub values : List X

abbrev pub published : {X : Type 0} → Board → List X → Published X
published b xs = record { board = b; values = xs }
