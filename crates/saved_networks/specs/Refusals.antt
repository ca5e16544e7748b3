-- The line that tells why a file is refused.
use Rattle.std.specs.Prelude.{ℕ, List, ◌∷◌, ◌++◌, codes, decimal}
use Rattle.att_text.specs.declared.faults.AttWhy.{AttWhy}
use Rattle.att_text.specs.declared.faults.AttWhy.TheVariants.{Statement, Flag, OpenSymbol, LimitSymbols}
use Rattle.reply_meaning.specs.Replies.{line_of}
use Rattle.saved_networks.specs.declared.faults.SavedWhy.{SavedWhy}
use Rattle.saved_networks.specs.declared.faults.SavedWhy.TheVariants.{NoFile, LimitFile, NotUtf8, Control, Line}

-- the name of a line's fault
abbrev pub line_reason : AttWhy → List ℕ
line_reason Statement = codes "statement"
line_reason Flag = codes "flag"
line_reason OpenSymbol = codes "open-symbol"
line_reason LimitSymbols = codes "limit-symbols"

-- the name of a reason
abbrev pub reason : SavedWhy → List ℕ
reason NoFile = codes "no-file"
reason LimitFile = codes "limit-file"
reason NotUtf8 = codes "not-utf8"
reason Control = codes "control"
reason (Line why) = line_reason why

-- `refused FILE LINE WHY`
abbrev pub refused_line : List ℕ → ℕ → SavedWhy → List ℕ
refused_line file line why = line_of (codes "refused " ++ file ++ 32 ∷ decimal line ++ 32 ∷ reason why)
