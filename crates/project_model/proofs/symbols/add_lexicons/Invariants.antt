use Rattle.std.proofs.Common.{◌≡◌, ◌+◌, ◌≤◌, length, drop, map}
use Rattle.std.specs.List.{flat_map}
use Rattle.name_resolution.specs.Plain.{lexicon_of}
use Rattle.project_meaning.specs.Leaves.{forms_in}
use Rattle.project_model.specs.Gathered.{gathered}
use Rattle.name_resolution.specs.Symbols.{symbols_at}
use Rattle.project_sources.specs.Limits.{most_symbols}
use Rattle.project_model.proofs.symbols.add_lexicons.Given as goal

-- the symbols of the other lexicons are left
abbrev pub invariant-lexicons : goal.invariant-lexicons
invariant-lexicons l = record {
  same : gathered l.table (flat_map (symbols_at l.names) (forms_in (map lexicon_of (drop l.lexicon-index l.lexicons)))) ≡ gathered l.fn.table (flat_map (symbols_at l.names) (forms_in (map lexicon_of l.lexicons)));
  short : length l.table ≤ most_symbols + 1;
}
