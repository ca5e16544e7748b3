use Rattle.std.proofs.Common.{◌≡◌, ◌+◌, ◌≤◌, length, drop, map}
use Rattle.std.specs.List.{flat_map}
use Rattle.name_resolution.specs.Plain.{form_of}
use Rattle.project_model.specs.Gathered.{gathered}
use Rattle.name_resolution.specs.Symbols.{symbols_at}
use Rattle.project_sources.specs.Limits.{most_symbols}
use Rattle.project_model.proofs.symbols.add_entries.Given as goal

-- the symbols of the other entries are left
abbrev pub invariant-entries : goal.invariant-entries
invariant-entries l = record {
  same : gathered l.table (flat_map (symbols_at l.names) (map (λ e. form_of e.form) (drop l.entry-index l.entries))) ≡ gathered l.fn.table (flat_map (symbols_at l.names) (map (λ e. form_of e.form) l.entries));
  short : length l.table ≤ most_symbols + 1;
}
