use Rattle.std.proofs.Common.{◌≤◌, ◌-◌, length}
use Rattle.lexc_tokens.proofs.Letters.{SoFar}
use Rattle.lexc_tokens.proofs.words.word.Given as goal

-- the letters so far, and those of the other characters
abbrev pub invariant-letters : goal.invariant-letters
invariant-letters l = record {
  within : l.len ≤ length l.text;
  so_far : SoFar l.text l.len l.letters.items;
}

abbrev pub decreases-letters : goal.decreases-letters
decreases-letters l = length l.text - l.len
