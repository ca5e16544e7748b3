use Rattle.std.proofs.Common.{◌-◌, ◌^◌}
use Rattle.std.specs.String.{string_bytes}
use Rattle.att_text.specs.Written.{IsWriting}
use Rattle.att_text.proofs.writing.write_att.Given as goal

abbrev pub invariant-places : goal.invariant-places
invariant-places l = IsWriting l.alphabet l.net l.states l.place (string_bytes l.text)

abbrev pub decreases-places : goal.decreases-places
decreases-places l = 2 ^ 64 - l.place
