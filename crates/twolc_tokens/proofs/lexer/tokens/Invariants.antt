use Rattle.std.proofs.Common.{length}
use denote.Shadow.{shadow}
use denote.Text.{Utf8}
use Rattle.twolc_tokens.proofs.Whole.{SoFar}
use Rattle.twolc_tokens.proofs.lexer.tokens.Given as goal

abbrev pub invariant-tokens : goal.invariant-tokens
invariant-tokens l = SoFar l.fn.text l.tokens.items l.here l.rest × shadow (Utf8 l.rest)

abbrev pub decreases-tokens : goal.decreases-tokens
decreases-tokens l = length l.rest
