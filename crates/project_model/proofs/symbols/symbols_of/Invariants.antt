use Rattle.std.proofs.Common.{◌≡◌, ◌+◌, ◌≤◌, [], map, length, drop}
use Rattle.project_sources.specs.Limits.{most_symbols}
use Rattle.project_model.specs.Answers.{written_of}
use Rattle.project_model.specs.Gathered.{gathered, symbols_of_all}
use Rattle.project_model.proofs.symbols.symbols_of.Given as goal

-- the symbols of the other definitions are left
abbrev pub invariant-written : goal.invariant-written
invariant-written l = record {
  same : gathered l.table (symbols_of_all l.names (map written_of (drop l.one-index l.written))) ≡ gathered [] (symbols_of_all l.names (map written_of l.written));
  short : length l.table ≤ most_symbols + 1;
}
