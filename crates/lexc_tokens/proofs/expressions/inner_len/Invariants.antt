use Rattle.std.proofs.Common.{◌≡◌, ◌+◌, drop}
use Rattle.lexc_tokens.specs.Tokens.{inner_len}
use Rattle.lexc_tokens.specs.declared.expressions.Inside.TheVariants.{Nothing}
use Rattle.lexc_tokens.proofs.expressions.inner_len.Given as goal

-- how many characters stand before the end, with those so far
abbrev pub invariant-characters : goal.invariant-characters
invariant-characters l = l.index + inner_len l.inside (drop l.index l.text) ≡ inner_len Nothing l.text
