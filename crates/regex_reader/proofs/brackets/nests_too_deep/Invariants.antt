use Rattle.std.proofs.Common.{◌≡◌, ◌≤◌, drop, map}
use Rattle.regex_reader.specs.Brackets.{nests_too_deep}
use Rattle.regex_reader.proofs.brackets.nests_too_deep.Given as goal

abbrev pub invariant-tokens : goal.invariant-tokens
invariant-tokens g l = (l.depth ≤ l.token-index) × (nests_too_deep l.depth (map (g.B.Brackets.bracket l.brackets) (drop l.token-index l.tokens)) ≡ nests_too_deep 0 (map (g.B.Brackets.bracket l.brackets) l.tokens))
