use Rattle.std.proofs.Common.{◌≡◌}
use Rattle.generated_report.specs.Generated.{words}
use Rattle.generated_report.proofs.text.made_text.Given as goal

-- the words so far
abbrev pub invariant-words : goal.invariant-words
invariant-words l = l.bytes.items ≡ words l.fn.stems l.place
