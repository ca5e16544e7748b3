use Rattle.std.proofs.Common.{◌≡◌, length}
use denote.Shadow.{shadow}
use denote.Text.{Utf8}
use Rattle.pair_lines.specs.Reading.{behind_blanks}
use Rattle.pair_lines.proofs.words.behind_blanks.Given as goal

abbrev pub invariant-blanks : goal.invariant-blanks
invariant-blanks l = (behind_blanks l.text ≡ behind_blanks l.rest) × shadow (Utf8 l.rest)

abbrev pub decreases-blanks : goal.decreases-blanks
decreases-blanks l = length l.rest
