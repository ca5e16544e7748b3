use Rattle.std.proofs.Common.{◌≡◌, ◌+◌, ◌≤◌, ◌-◌, length, drop}
use Rattle.regex_tokens.specs.Cuts.{newlines}
use Rattle.lexc_reader.proofs.Gathered.{SoFar}
use Rattle.lexc_reader.proofs.gathering.entry_tokens.Given as goal

-- the tokens so far, and those of the other characters
abbrev pub invariant-tokens : goal.invariant-tokens
invariant-tokens l = record {
  within : l.len ≤ length l.text;
  line_is : l.behind + newlines (drop l.len l.text) ≡ l.fn.line + newlines l.text;
  so_far : SoFar (l.fn.line + newlines l.text) l.fn.first l.text l.len l.tokens.items;
}

abbrev pub decreases-tokens : goal.decreases-tokens
decreases-tokens l = length l.text - l.len
