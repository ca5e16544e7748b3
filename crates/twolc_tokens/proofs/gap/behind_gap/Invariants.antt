use Rattle.std.proofs.Common.{◌≡◌, length}
use Rattle.regex_tokens.specs.declared.comments.Comments.TheVariants.{OfEntries}
use denote.Shadow.{shadow}
use denote.Text.{Utf8}
use Rattle.regex_tokens.specs.Cuts.{behind_gap}
use Rattle.twolc_tokens.proofs.gap.behind_gap.Given as goal

abbrev pub invariant-gap : goal.invariant-gap
invariant-gap l = (behind_gap OfEntries l.text ≡ behind_gap OfEntries l.rest) × shadow (Utf8 l.rest)

abbrev pub decreases-gap : goal.decreases-gap
decreases-gap l = length l.rest
