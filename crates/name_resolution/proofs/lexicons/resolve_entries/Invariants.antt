use Rattle.std.proofs.Common.{◌≡◌, map}
use Rattle.name_resolution.specs.NumberedLexicons.{entry_in}
use Rattle.name_resolution.specs.Plain.{entry_of}
use Rattle.name_resolution.proofs.lexicons.resolve_entries.Given as goal

-- the entries so far
abbrev pub invariant-entries : goal.invariant-entries
invariant-entries l = record {
  entries : map entry_of l.found.items ≡ map (entry_in l.names l.table) (map entry_of l.yielded);
  lines : map (λ e. e.line) l.found.items ≡ map (λ e. e.line) l.yielded;
}
