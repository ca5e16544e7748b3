use Rattle.std.proofs.Common.{◌≡◌, ◌+◌, ◌≤◌, ℕ, List, length}
use Rattle.std.specs.Bool.{⊤}
use Rattle.regex_grammar.specs.Reading.{is_backslash, one_of, backslash_of}
use Rattle.regex_grammar.proofs.Loops.{ManySoFar}
use Rattle.regex_tokens.specs.declared.token.Token.{Token}
use Rattle.regex_parser.proofs.front.backslashes.Given as goal

-- marks that were counted
pub record Marked (tokens rest : List Token) (count : ℕ) : Type 0 where
  pub marks : List ⊤
  pub counted : length marks ≡ count
  pub within : count + length rest ≤ length tokens
  pub so_far : ManySoFar is_backslash (one_of backslash_of) tokens marks rest

abbrev pub invariant-marks : goal.invariant-marks
invariant-marks l = Marked l.tokens l.rest l.marks

abbrev pub decreases-marks : goal.decreases-marks
decreases-marks l = length l.rest
