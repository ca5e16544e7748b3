use Rattle.std.proofs.Common.{◌≡◌, ◌≤◌, ◌+◌, ◌-◌, List, length, drop, Result}
use Rattle.regex_reader.specs.Files.{FaultAt}
use Rattle.regex_tokens.specs.Cuts.{newlines}
use Rattle.lexc_grammar.specs.Files.{Says}
use Rattle.lexc_grammar.specs.Lexicons.{LexiconAt, nothing_known}
use Rattle.lexc_grammar.specs.declared.statements.Stage.TheVariants.{Beginning}
use Rattle.lexc_reader.specs.Answers.{known_of}
use Rattle.lexc_reader.proofs.lexc.read_lexc.Given as goal

-- what the text says is what its rest says
abbrev pub invariant-statements : goal.invariant-statements
invariant-statements l = record {
  within : l.len ≤ length l.characters.items;
  line_is : l.line + newlines (drop l.len l.characters.items) ≡ newlines l.characters.items + 1;
  goes_on : (answer : Result (List LexiconAt) FaultAt)
      → Says (newlines l.characters.items + 1) l.stage (known_of l.state) (drop l.len l.characters.items) answer
      → Says (newlines l.characters.items + 1) Beginning nothing_known l.characters.items answer;
}

abbrev pub decreases-statements : goal.decreases-statements
decreases-statements l = length l.characters.items - l.len
