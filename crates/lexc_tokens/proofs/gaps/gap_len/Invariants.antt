use Rattle.std.proofs.Common.{◌≡◌, drop}
use Rattle.regex_tokens.specs.Cuts.{behind_gap_from}
use Rattle.regex_tokens.specs.declared.comments.Comments.TheVariants.{OfEntries}
use Rattle.lexc_tokens.specs.Tokens.{behind_blanks}
use Rattle.lexc_tokens.proofs.gaps.gap_len.Given as goal

-- what is behind the blanks and comments of the other characters
abbrev pub invariant-gap : goal.invariant-gap
invariant-gap l = behind_gap_from OfEntries l.inside (drop l.index l.text) ≡ behind_blanks l.text
