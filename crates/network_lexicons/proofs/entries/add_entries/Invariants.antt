use Rattle.std.proofs.Common.{map, take}
use Rattle.network_lexicons.specs.Plain.{entry_of}
use Rattle.network_lexicons.proofs.Gathered.{HasGiven}
use Rattle.network_lexicons.proofs.entries.add_entries.Given as goal

abbrev pub invariant-entries : goal.invariant-entries
invariant-entries l = HasGiven l.parts l.alphabet l.names l.place l.fn.flags l.flags (take l.entry-index (map entry_of l.entries)) l.fn.builder l.builder
