use Rattle.std.proofs.Common.{◌≡◌, ◌≤◌, ◌++◌, length}
use denote.Shadow.{shadow}
use denote.Text.{Utf8}
use Rattle.generated_report.specs.Words.{words_in}
use Rattle.generated_report.proofs.Lines.{AreWithin}
use Rattle.generated_report.proofs.words.words_in.Given as goal

-- the words of the lines so far, and those of the rest
abbrev pub invariant-lines : goal.invariant-lines
invariant-lines l = record {
  utf8 : shadow (Utf8 l.rest);
  words : l.words.items ++ words_in l.rest ≡ words_in l.text;
  within : AreWithin (length l.text) l.words.items;
  shorter : length l.rest ≤ length l.text;
}

abbrev pub decreases-lines : goal.decreases-lines
decreases-lines l = length l.rest
