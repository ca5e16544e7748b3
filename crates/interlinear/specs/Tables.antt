-- A table of glosses as it is kept.
use Rattle.std.specs.Prelude.{ℕ, ◌<◌, ◌≤◌, List, length, All, Vec, Option, None, Some, Result, Ok, Err}
use Rattle.std.specs.Global.{Global}
use Rattle.regex_ast.specs.declared.fault.Why.{Why}
use Rattle.interlinear.specs.Glosses.{Entry}

-- an entry, and what was found of one
abbrev pub kept : Vec ℕ Global × List ℕ → Entry
kept entry = (entry.0.items, entry.1)

abbrev pub found : Option (Vec ℕ Global × List ℕ) → Option Entry
found None = None
found (Some entry) = Some (kept entry)

-- the key isn't empty, and has so many characters at most
abbrev pub IsWithin : ℕ → Entry → Type 0
IsWithin most entry = (0 < length entry.0) × (length entry.0 ≤ most)

abbrev pub AreWithin : ℕ → List Entry → Type 0
AreWithin most entries = All (IsWithin most) entries

-- the entries, or the reason why there are none
abbrev pub told : List Entry → Option Why → Result (List Entry) Why
told entries None = Ok entries
told entries (Some reason) = Err reason
