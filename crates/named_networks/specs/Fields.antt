-- Which texts of symbols may stand in a field of an AT&T text.
use Rattle.std.specs.Prelude.{ℕ, List}
use Rattle.att_text.specs.Views.{HasNo}

-- it has neither a tab, 9, nor a newline, 10
abbrev pub HasNoBreak : List ℕ → Type 0
HasNoBreak text = HasNo 9 text × HasNo 10 text
